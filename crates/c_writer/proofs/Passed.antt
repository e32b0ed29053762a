-- What is known where nothing was refused before contents are written.
-- Assumes nothing.
use Prim.Native.Nat.{ℕ, ◌≤◌}
use mathlib.Core.Path.{◌≡◌}
use mathlib.Core.List.{List}
use mathlib.Core.Bool.{true}
use borrow.Author.Tests.{leb-true}
use Rattle.c_layout.specs.StateBytes.{sound_bytes}
use Rattle.bits.specs.Calls.{first_number}
use Rattle.bits.proofs.CallLaws.{all-passed}
use Rattle.c_writer.specs.WriteStereo.{write_tests}

pub write-passed : (s : List ℕ) (size room : ℕ) → first_number (write_tests s size room) ≡ 0
    → (sound_bytes s ≡ true) × (582 ≤ size) × (4 ≤ room)
write-passed s size room e =
    let p = all-passed (write_tests s size room) tt e in
    (p.1.0, leb-true 582 size p.1.1.0, leb-true 4 room p.0)
