-- Signed numbers over the width: a value of small magnitude goes through the bits unchanged, and so do sums, differences and negations.
-- Assumes nothing.
use Prim.Native.Nat.{ℕ, suc, zero, ◌+◌, ◌-◌, ◌<◌, ◌≤◌, ◌^◌}
use mathlib.Core.Path.{◌≡◌, refl}
use mathlib.Core.Bool.{Bool, true, false, cond}
use native.Mathlib.Omega.{arith}
use lib.IntN.{ℤ, pos, negsuc, neg_ℤ, sub_ℕ, ◌+ℤ◌, ◌-ℤ◌, nat_abs, +ℤ_idl}
use lib.Signed.{mag, lt_z, non_neg, nat_abs-le}
use lib.Dec.{ltb, T}
use mir.Syntax.{Width, w8, w16}
use mir.Val.{SFits, hbits, to_z, of_z}
use mir.ValLaws.{to_z-of_z}
use Rattle.bits.proofs.Bools.{true-false}

mag-le : (z : ℤ) → mag z ≤ nat_abs z
mag-le (pos n) = omega arith
mag-le (negsuc n) = omega arith

abs_cond : (b : Bool) (x y k : ℕ) → suc x ≤ k → y ≤ k → nat_abs (cond b (negsuc x) (pos y)) ≤ k
abs_cond true x y k h g = h
abs_cond false x y k h g = g

abs_sub : (x y m n : ℕ) → x ≤ m → y ≤ n → 0 < y → nat_abs (sub_ℕ x y) ≤ m + n
abs_sub x y m n h g p = abs_cond (ltb x y) (y - suc x) (x - y) (m + n) (omega arith) (omega arith)

pub abs_add : (a b : ℤ) (m n : ℕ) → nat_abs a ≤ m → nat_abs b ≤ n → nat_abs (a +ℤ b) ≤ m + n
abs_add (pos a) (pos b) m n h g = omega arith
abs_add (pos a) (negsuc b) m n h g = abs_sub a (suc b) m n h g (omega arith)
abs_add (negsuc a) (pos b) m n h g = let e : nat_abs (sub_ℕ b (suc a)) ≤ n + m = abs_sub b (suc a) n m g h (omega arith) in omega arith
abs_add (negsuc a) (negsuc b) m n h g = omega arith

pub abs_neg : (a : ℤ) → nat_abs (neg_ℤ a) ≡ nat_abs a
abs_neg (pos zero) = refl
abs_neg (pos (suc n)) = refl
abs_neg (negsuc n) = refl

-- a value of small magnitude fits
pub fits : {w : Width} {z : ℤ} (k : ℕ) → nat_abs z ≤ k → k < 2 ^ hbits w → SFits w z
fits {w} {z} k h g = record { sfits = omega (arith, mag-le z) }

-- a signed byte, widened
pub wide_fits : (z : ℤ) → SFits w8 z → SFits w16 (to_z w8 (of_z w8 z))
wide_fits z f = rw (to_z-of_z w8 z f) (fits 128 (nat_abs-le z f.sfits) (omega arith))

pub not_neg : (z : ℤ) → lt_z z (pos 0) ≡ false → T (non_neg z)
not_neg (pos n) e = tt
not_neg (negsuc n) e = absurd (true-false true refl e)

module _ (w : Width) where
  -- it goes through the bits unchanged
  pub thru : {z : ℤ} (k : ℕ) → nat_abs z ≤ k → k < 2 ^ hbits w → to_z w (of_z w z) ≡ z
  thru {z} k h g = to_z-of_z w z (fits k h g)

  -- the code's own sum, difference and negation, whose operands went through the bits
  module _ {a b : ℤ} (m n : ℕ) (fa : SFits w a) (fb : SFits w b) (h : nat_abs a ≤ m) (g : nat_abs b ≤ n) (k : m + n < 2 ^ hbits w) where
    pub sum_fits : SFits w (to_z w (of_z w a) +ℤ to_z w (of_z w b))
    sum_fits = rw (to_z-of_z w a fa, to_z-of_z w b fb) (fits (m + n) (abs_add a b m n h g) k)

    pub sum_is : to_z w (of_z w (to_z w (of_z w a) +ℤ to_z w (of_z w b))) ≡ a +ℤ b
    sum_is = rw (to_z-of_z w a fa, to_z-of_z w b fb) (to_z-of_z w (a +ℤ b) (fits (m + n) (abs_add a b m n h g) k))

    pub diff-fits : SFits w (to_z w (of_z w a) -ℤ to_z w (of_z w b))
    diff-fits = rw (to_z-of_z w a fa, to_z-of_z w b fb) (fits (m + n) (abs_add a (neg_ℤ b) m n h (rw abs_neg g)) k)

    pub diff_is : to_z w (of_z w (to_z w (of_z w a) -ℤ to_z w (of_z w b))) ≡ a -ℤ b
    diff_is = rw (to_z-of_z w a fa, to_z-of_z w b fb) (to_z-of_z w (a -ℤ b) (fits (m + n) (abs_add a (neg_ℤ b) m n h (rw abs_neg g)) k))

  module _ {a : ℤ} (m : ℕ) (fa : SFits w a) (h : nat_abs a ≤ m) (k : m < 2 ^ hbits w) where
    pub neg-fits : SFits w (pos 0 -ℤ to_z w (of_z w a))
    neg-fits = rw (to_z-of_z w a fa, +ℤ_idl (neg_ℤ a)) (fits m (rw abs_neg h) k)

    pub neg_is : to_z w (of_z w (pos 0 -ℤ to_z w (of_z w a))) ≡ neg_ℤ a
    neg_is = rw (to_z-of_z w a fa, +ℤ_idl (neg_ℤ a)) (to_z-of_z w (neg_ℤ a) (fits m (rw abs_neg h) k))

-- a value of one width, by way of another that holds it
pub widened : (v w : Width) (k : ℕ) (x : ℤ) → SFits v x → nat_abs x ≤ k → k < 2 ^ hbits w → to_z w (of_z w (to_z v (of_z v x))) ≡ x
widened v w k x f h l = rw (to_z-of_z v x f) (thru w k h l)
