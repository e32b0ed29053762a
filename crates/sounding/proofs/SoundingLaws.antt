-- The lines that sound are those that are not 0.
-- Assumes nothing.
use Prim.Native.Nat.{ℕ, zero, suc, ◌+◌}
use mathlib.Core.Path.{◌≡◌, refl, sym, ◌∙◌, ap}
use mathlib.Core.Bool.{Bool, true, false, not, cond}
use mathlib.Core.List.{List, ◌∷◌}
use native.Mathlib.Omega.{arith}
use lib.IntN.{ℤ, pos, negsuc, nat_abs}
use lib.Dec.{eqb}
use borrow.Author.Tests.{eqb-true, eq-eqb}
use Rattle.bits.specs.Reader.{pick}
use Rattle.std.specs.Cmp.{signed_Decides}
use lib.ListN.{replicate}
use Rattle.std.specs.Ordering.{int_eq}
use Rattle.std.specs.List.{count_by}
use Rattle.std.proofs.lemmas.List.Recursion.{is_count_by}
use Rattle.sounding.specs.Sounding.{sounding}

-- whether a line sounds
abbrev pub sounds : ℤ → Bool
sounds x = not (int_eq x (pos 0))

-- a line is 0 where its magnitude is
zero_is : (x : ℤ) → nat_abs x ≡ 0 → x ≡ pos 0
zero_is (pos n) e = ap pos e
zero_is (negsuc n) e = absurd (omega arith)

silent : (x : ℤ) → eqb (nat_abs x) 0 ≡ int_eq x (pos 0)
silent x =
    alike (eqb (nat_abs x) 0) (int_eq x (pos 0))
    (λ e. (signed_Decides x (pos 0)).1 (zero_is x (eqb-true (nat_abs x) 0 e)))
    (λ e. eq-eqb (nat_abs x) 0 (ap nat_abs ((signed_Decides x (pos 0)).0 e)))
  where
    alike : (p q : Bool) → (p ≡ true → q ≡ true) → (q ≡ true → p ≡ true) → p ≡ q
    alike true q f g = sym (f refl)
    alike false true f g = g refl
    alike false false f g = refl

turned : (b : Bool) (n : ℕ) → pick b n (n + 1) ≡ cond (not b) (1 + n) n
turned true n = refl
turned false n = omega arith

one_more : (x : ℤ) (xs : List ℤ) → sounding (x ∷ xs) ≡ cond (sounds x) (1 + sounding xs) (sounding xs)
unfolding sounding
one_more x xs =
    let n = sounding xs in
    turned (eqb (nat_abs x) 0) n ∙ ap (λ (b : Bool). cond (not b) (1 + n) n) (silent x)

pub counted : (xs : List ℤ) → count_by sounds xs ≡ sounding xs
unfolding sounding
counted xs = sym (is_count_by sounding sounds refl one_more xs)

pub sounding-zeros : (n : ℕ) → sounding (replicate n (pos 0)) ≡ 0
unfolding sounding
sounding-zeros zero = refl
sounding-zeros (suc n) = sounding-zeros n
