-- The code's own step from one index to another, in sixteen bits.
-- Assumes nothing.
use Prim.Native.Nat.{ℕ, ◌≤◌}
use mathlib.Core.Path.{◌≡◌}
use native.Mathlib.Omega.{arith}
use lib.IntN.{ℤ, pos, neg_ℤ, ◌+ℤ◌, ◌-ℤ◌, nat_abs}
use mir.Syntax.{w8, w16}
use mir.Val.{SFits, to_z, of_z}
use Rattle.bits.proofs.Signed.{fits, abs_add, abs_neg}
use Rattle.stereo_indices.specs.Difference.{middle}
use Rattle.stereo_indices.specs.declared.Kind.{Kind}
use Rattle.stereo_indices.proofs.KindLaws.{byte_abs, wide_is, through, middle-le}

-- a signed byte, widened
abbrev wide : ℤ → ℤ
wide x = to_z w16 (of_z w16 (to_z w8 (of_z w8 x)))

-- the difference
gap_is : (x y : ℤ) → SFits w8 x → SFits w8 y → wide y -ℤ wide x ≡ y -ℤ x
gap_is x y f g = rw (wide_is x f, wide_is y g)

gap_abs : (x y : ℤ) → SFits w8 x → SFits w8 y → nat_abs (y -ℤ x) ≤ 256
gap_abs x y f g = abs_add y (neg_ℤ x) 128 128 (byte_abs y g) (rw abs_neg (byte_abs x f))

-- with the entry that is no difference
abbrev step : Kind → ℕ → ℤ → ℤ → ℤ
step k mode x y = y -ℤ x +ℤ pos (middle k mode)

abbrev code_step : ℤ → ℤ → ℤ → ℤ
code_step x y m = to_z w16 (of_z w16 (wide y -ℤ wide x)) +ℤ to_z w16 (of_z w16 m)

step_is : (k : Kind) (mode : ℕ) (x y m : ℤ) → SFits w8 x → SFits w8 y → m ≡ pos (middle k mode) → code_step x y m ≡ step k mode x y
step_is k mode x y m f g e =
    rw (through w16 256 (gap_is x y f g) (gap_abs x y f g) (omega arith), through w16 30 e (middle-le k mode) (omega arith))

step_abs : (k : Kind) (mode : ℕ) (x y : ℤ) → SFits w8 x → SFits w8 y → nat_abs (step k mode x y) ≤ 286
step_abs k mode x y f g = abs_add (y -ℤ x) (pos (middle k mode)) 256 30 (gap_abs x y f g) (middle-le k mode)

pub step_fits : (k : Kind) (mode : ℕ) (x y m : ℤ) → SFits w8 x → SFits w8 y → m ≡ pos (middle k mode) → SFits w16 (code_step x y m)
step_fits k mode x y m f g e = rw (step_is k mode x y m f g e) (fits 286 (step_abs k mode x y f g) (omega arith))

pub step-thru : (k : Kind) (mode : ℕ) (x y m : ℤ) → SFits w8 x → SFits w8 y → m ≡ pos (middle k mode)
    → to_z w16 (of_z w16 (code_step x y m)) ≡ step k mode x y
step-thru k mode x y m f g e = through w16 286 (step_is k mode x y m f g e) (step_abs k mode x y f g) (omega arith)
