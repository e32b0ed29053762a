-- What is known where nothing was refused before a stereo payload's first bit.
-- Assumes nothing.
use Prim.Native.Nat.{ℕ, ◌≤◌}
use mathlib.Core.Path.{◌≡◌}
use mathlib.Core.List.{List, [], ◌∷◌}
use mathlib.Core.Bool.{Bool, true, false}
use borrow.Author.Tests.{leb-true}
use Rattle.c_layout.specs.StateBytes.{sound_bytes}
use Rattle.bits.specs.Payload.{in_buffer}
use Rattle.bits.specs.Calls.{◌or◌, first_number}
use Rattle.bits.proofs.CallLaws.{all-passed, range-in}
use Rattle.c_stereo.specs.ReadStereo.{stereo_tests}

pub stereo-passed : (s : List ℕ) (size start end room : ℕ) → first_number (stereo_tests (in_buffer start end size) room s) ≡ 0
    → (582 ≤ room) × (sound_bytes s ≡ true) × (start ≤ end) × (end ≤ size)
stereo-passed s size start end room e =
    let p = all-passed (stereo_tests (in_buffer start end size) room s) tt e in
    let r = range-in size start end p.0 in
    (leb-true 582 room p.1.0, p.1.1.0, r.0, r.1)

-- a refusal stands whatever is judged after it
pub still_refused : (there room sound : Bool) (n : ℕ) → n ≡ first_number (there or 1 ∷ room or 2 ∷ []) → (n ≡ 0 → ⊥)
    → n ≡ first_number (there or 1 ∷ room or 2 ∷ sound or 4 ∷ [])
still_refused true true sound n e h = absurd (h e)
still_refused true false sound n e h = e
still_refused false room sound n e h = e
