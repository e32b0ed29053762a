-- A number of 16 bits, widened: it fits, and so does its negation; a number below 0 has a negation that is not, and a minus before it.
-- Assumes nothing.
use Prim.Native.Nat.{◌≤◌}
use mathlib.Core.Path.{◌≡◌, refl}
use mathlib.Core.List.{[]}
use mathlib.Core.Bool.{true, false}
use native.Mathlib.Omega.{arith}
use lib.Dec.{T}
use borrow.Author.Tests.{ltb-true}
use lib.IntN.{ℤ, pos, negsuc, neg_ℤ, nat_abs, ◌-ℤ◌}
use lib.Signed.{lt_z, non_neg, nat_abs-le}
use mir.Syntax.{w16, w64}
use mir.Val.{SFits, Fits, to_z, of_z}
use mir.ValLaws.{to_z-of_z}
use Rattle.print_lines.specs.InnerText.{ascii}
use Rattle.print_rows.specs.InnerSigned.{sign_text}
use Rattle.bits.proofs.Signed.{fits, thru, neg-fits, neg_is, abs_neg, not_neg}

below-not : (z : ℤ) → lt_z z (pos 0) ≡ true → T (non_neg (neg_ℤ z))
below-not (pos n) e = let h = ltb-true n 0 e in absurd (omega arith)
below-not (negsuc n) e = tt

with_minus : (z : ℤ) → lt_z z (pos 0) ≡ true → sign_text z ≡ ascii "-"
with_minus (pos n) e = let h = ltb-true n 0 e in absurd (omega arith)
with_minus (negsuc n) e = refl

without_minus : (z : ℤ) → lt_z z (pos 0) ≡ false → sign_text z ≡ []
without_minus (pos n) e = refl
without_minus (negsuc n) e = absurd (not_neg (negsuc n) e)

module _ (z : ℤ) (f : SFits w16 z) where
  small : nat_abs (to_z w16 (of_z w16 z)) ≤ 32768
  small = rw (to_z-of_z w16 z f) (nat_abs-le z f.sfits)

  pub widened : SFits w64 (to_z w16 (of_z w16 z))
  widened = fits 32768 small (omega arith)

  through : to_z w64 (of_z w64 (to_z w16 (of_z w16 z))) ≡ to_z w16 (of_z w16 z)
  through = thru w64 32768 small (omega arith)

  pub negated : SFits w64 (pos 0 -ℤ to_z w64 (of_z w64 (to_z w16 (of_z w16 z))))
  negated = neg-fits w64 32768 widened small (omega arith)

  as_number : (x : ℤ) → nat_abs x ≤ 32768 → Fits w64 (nat_abs x)
  as_number x h = record { fits = omega arith }

  -- what is cast to an unsigned number
  pub below : lt_z (to_z w64 (of_z w64 (to_z w16 (of_z w16 z)))) (pos 0) ≡ true
      → T (non_neg (to_z w64 (of_z w64 (pos 0 -ℤ to_z w64 (of_z w64 (to_z w16 (of_z w16 z)))))))
      × Fits w64 (nat_abs (to_z w64 (of_z w64 (pos 0 -ℤ to_z w64 (of_z w64 (to_z w16 (of_z w16 z)))))))
  below e =
      let n = neg_is w64 32768 widened small (omega arith) in
      let t : lt_z (to_z w16 (of_z w16 z)) (pos 0) ≡ true = rw (← through) e in
      rw n (below-not (to_z w16 (of_z w16 z)) t, as_number (neg_ℤ (to_z w16 (of_z w16 z))) (rw abs_neg small))

  pub above : lt_z (to_z w64 (of_z w64 (to_z w16 (of_z w16 z)))) (pos 0) ≡ false
      → T (non_neg (to_z w64 (of_z w64 (to_z w16 (of_z w16 z))))) × Fits w64 (nat_abs (to_z w64 (of_z w64 (to_z w16 (of_z w16 z)))))
  above e =
      let t : lt_z (to_z w16 (of_z w16 z)) (pos 0) ≡ false = rw (← through) e in
      rw through (not_neg (to_z w16 (of_z w16 z)) t, as_number (to_z w16 (of_z w16 z)) small)

  -- and what it is then
  pub below-is : nat_abs (to_z w64 (of_z w64 (pos 0 -ℤ to_z w64 (of_z w64 (to_z w16 (of_z w16 z)))))) ≡ nat_abs z
  below-is = rw (neg_is w64 32768 widened small (omega arith), abs_neg, to_z-of_z w16 z f)

  pub above-is : nat_abs (to_z w64 (of_z w64 (to_z w16 (of_z w16 z)))) ≡ nat_abs z
  above-is = rw (through, to_z-of_z w16 z f)

  -- the sign
  pub minus : lt_z (to_z w16 (of_z w16 z)) (pos 0) ≡ true → sign_text z ≡ ascii "-"
  minus e = with_minus z (rw (to_z-of_z w16 z f) at e)

  pub no_minus : lt_z (to_z w16 (of_z w16 z)) (pos 0) ≡ false → sign_text z ≡ []
  no_minus e = without_minus z (rw (to_z-of_z w16 z f) at e)
