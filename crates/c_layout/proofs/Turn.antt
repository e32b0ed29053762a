-- A signed number of 8 bits by way of 16: 256 more than a negative one is its byte, 256 less than a byte from 128 on is its number.
-- Assumes nothing.
use Prim.Native.Nat.{ℕ, suc, ◌<◌, ◌≤◌}
use mathlib.Core.Path.{◌≡◌, refl, ◌∙◌}
use mathlib.Core.Bool.{Bool, true, false}
use native.Mathlib.Omega.{arith}
use borrow.Author.Tests.{ltb-true, le-ltb, lt-ltb}
use lib.IntN.{ℤ, pos, negsuc, ◌+ℤ◌, ◌-ℤ◌}
use lib.Signed.{mag, lt_z, nat_abs-le}
use mir.Syntax.{w8, w16}
use mir.Val.{SFits, to_z, of_z}
use mir.ValLaws.{to_z-of_z, to_z_pos}
use Rattle.bits.proofs.Signed.{fits, abs_add}
use Rattle.stereo_indices.proofs.KindLaws.{wide_is}

up : (z : ℤ) → lt_z z (pos 0) ≡ true → mag z < 128 → z +ℤ pos 256 ≡ pos (of_z w8 z)
up (pos n) e h = let k : n < 0 = ltb-true n 0 e in absurd (omega arith)
up (negsuc n) e h = rw (le-ltb 256 (suc n) (omega arith))

pub raised-fits : (x : ℤ) → SFits w8 x → SFits w16 (to_z w16 (of_z w16 (to_z w8 (of_z w8 x))) +ℤ pos 256)
raised-fits x f = rw (wide_is x f) (fits 384 (abs_add x (pos 256) 128 256 (nat_abs-le x f.sfits) (omega arith)) (omega arith))

-- a negative number and 256
pub raised : (x : ℤ) → SFits w8 x → lt_z x (pos 0) ≡ true
    → to_z w16 (of_z w16 (to_z w16 (of_z w16 (to_z w8 (of_z w8 x))) +ℤ pos 256)) ≡ pos (of_z w8 x)
raised x f e = to_z-of_z w16 _ (raised-fits x f) ∙ rw (wide_is x f) (up x e f.sfits)

-- a number that is not below 0 is its byte
pub plain : (x : ℤ) → lt_z x (pos 0) ≡ false → x ≡ pos (of_z w8 x)
plain (pos n) e = refl
plain (negsuc n) e = let z : ◌≡◌ {A = Bool} true false = e in cc

-- a byte from 128 on, less 256
pub lowered : (b : ℕ) → 128 ≤ b → b < 256 → to_z w16 b -ℤ pos 256 ≡ to_z w8 b
lowered b h k = rw (to_z_pos w16 b (omega arith), lt-ltb b 256 k, le-ltb b 128 h)
