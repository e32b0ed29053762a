-- What a field that was read is below: for the proofs of functions that read a field and go on.
-- Assumes nothing.
use Prim.Native.Nat.{ℕ, ◌<◌, ◌^◌}
use mathlib.Core.Path.{◌≡◌}
use mathlib.Core.List.{List}
use Rattle.bits.specs.Reader.{got}
use Rattle.bits.specs.Field.{field}
use Rattle.bits.proofs.BitLaws.{bits_from-lt}
use Rattle.bits.proofs.FieldLaws.{field-taken}

-- a field that was read is below 2 ^ n
pub field_below : (n : ℕ) (s : List ℕ) (at end v next : ℕ) → field n s at end ≡ got v next → v < 2 ^ n
field_below n s at end v next e = let w = field-taken n s at end next v e in rw w.1 (bits_from-lt s at n)
