-- The numbers that a reader refuses with: all pass a test. Proved of each primitive, and kept by the ways of putting readers together.
-- Assumes nothing.
use Prim.Native.Nat.{ℕ, zero, suc, ◌+◌, ◌-◌}
use mathlib.Core.Path.{◌≡◌, refl, sym, subst}
use mathlib.Core.List.{List, [], ◌∷◌, ◌++◌}
use mathlib.Core.Bool.{Bool, true, false, ◌||◌}
use lib.Dec.{leb, eqb}
use borrow.Author.Tests.{eqb-true}
use Rattle.bits.specs.Lists.{one_of}
use Rattle.bits.proofs.Bools.{true-false}
use Rattle.bits.proofs.Lawful.{not-refused}
use Rattle.bits.specs.Bits.{bits_from}
use Rattle.bits.specs.Reader.{Answer, got, refused, Reader, give, after, ◌>>=◌, pick, tested, expecting}
use Rattle.bits.specs.Field.{field, zero_bit}
use Rattle.bits.specs.Loop.{counted, more, listed, turns, while}
use Rattle.bits.specs.Places.{placed, one_field, here}
use Rattle.bits.specs.Inside.{renumbered, inside, Fill, left_over}
use Rattle.bits.specs.Payload.{ended, whole}

-- a test that all of some numbers pass
abbrev pub Pass : (ℕ → Bool) → List ℕ → Type 0
Pass t [] = Unit
Pass t (k ∷ ks) = (t k ≡ true) × Pass t ks

-- is passed by a number that is one of them
pub one-of : (t : ℕ → Bool) (ks : List ℕ) → Pass t ks → (n : ℕ) → one_of ks n ≡ true → t n ≡ true
one-of t [] p n e = absurd (true-false false e refl)
one-of t (k ∷ ks) p n e = first (eqb n k) refl (one-of t ks p.1 n) e
  where
    first : (b : Bool) → eqb n k ≡ b → (one_of ks n ≡ true → t n ≡ true) → (b || one_of ks n) ≡ true → t n ≡ true
    first true q later h = subst (λ (j : ℕ). t j ≡ true) (sym (eqb-true n k q)) p.0
    first false q later h = later h

module _ (among : ℕ → Bool) where
  pub record Numbered {A : Type 0} (r : Reader A) : Type 0 where
    pub law : (s : List ℕ) (at end n p : ℕ) → r s at end ≡ refused n p → among n ≡ true

  -- a refusal with a number is one with this number
  is_among : {A : Type 0} (m n q p : ℕ) → among m ≡ true → ◌≡◌ {A = Answer A} (refused m q) (refused n p) → among n ≡ true
  is_among m n q p e f = let z : m ≡ n = cc in subst (λ (k : ℕ). among k ≡ true) z e

  pub give-numbered : {A : Type 0} (a : A) → Numbered (give a)
  give-numbered a = record { law = λ s at end n p e. not-refused e }

  pub here-numbered : Numbered here
  unfolding here
  here-numbered = record { law = λ s at end n p e. not-refused e }

  pub refusing-numbered : {A : Type 0} (m : ℕ) (place : ℕ → ℕ) → among m ≡ true → Numbered {A = A} (λ s at end. refused m (place at))
  refusing-numbered {A} m place o = record { law = λ s at end n p e. is_among {A = A} m n (place at) p o e }

  pub field-numbered : among 10 ≡ true → (k : ℕ) → Numbered (field k)
  unfolding field
  field-numbered o k = record { law = λ s at end n p e. go s at n p (leb (at + k) end) e }
    where
      go : (s : List ℕ) (at n p : ℕ) (b : Bool) → pick b (got (bits_from s at k) (at + k)) (refused 10 at) ≡ refused n p → among n ≡ true
      go s at n p true e = not-refused e
      go s at n p false e = is_among {A = ℕ} 10 n at p o e

  pub bind-numbered : {A B : Type 0} (r : Reader A) (k : A → Reader B) → Numbered r → ((a : A) → Numbered (k a)) → Numbered (r >>= k)
  bind-numbered {A} {B} r k g h = record { law = λ s at end n p e. go s at end n p (r s at end) refl e }
    where
      go : (s : List ℕ) (at end n p : ℕ) (x : Answer A) → r s at end ≡ x → after x k s end ≡ refused n p → among n ≡ true
      go s at end n p (got a m) q e = (h a).law s m end n p e
      go s at end n p (refused m o) q e = is_among {A = B} m n o p (g.law s at end m o q) e

  pub expecting-numbered : {A : Type 0} (m : ℕ) (t : A → Bool) (r : Reader A) → among m ≡ true → Numbered r → Numbered (expecting m t r)
  expecting-numbered {A} m t r o g = record { law = λ s at end n p e. go s at end n p (r s at end) refl e }
    where
      test : (at n p : ℕ) (a : A) (k : ℕ) (b : Bool) → pick b (got a k) (refused m at) ≡ refused n p → among n ≡ true
      test at n p a k true e = not-refused e
      test at n p a k false e = is_among {A = A} m n at p o e

      go : (s : List ℕ) (at end n p : ℕ) (x : Answer A) → r s at end ≡ x → tested x m t at ≡ refused n p → among n ≡ true
      go s at end n p (got a k) q e = test at n p a k (t a) e
      go s at end n p (refused k l) q e = is_among {A = A} k n l p (g.law s at end k l q) e

  pub zero_bit-numbered : among 10 ≡ true → (m : ℕ) → among m ≡ true → Numbered (zero_bit m)
  unfolding zero_bit
  zero_bit-numbered o m q = expecting-numbered m _ _ q (field-numbered o 1)

  pub pick-numbered : {A : Type 0} (b : Bool) (r q : Reader A) → Numbered r → Numbered q → Numbered (pick b r q)
  pick-numbered true r q g h = g
  pick-numbered false r q g h = h

  pub counted-numbered : {S : Type 0} (f : ℕ → S → Reader S) → ((i : ℕ) (x : S) → Numbered (f i x)) → (i n : ℕ) (x : S)
      → Numbered (counted i n f x)
  unfolding counted
  counted-numbered f g i zero x = give-numbered x
  counted-numbered f g i (suc n) x = bind-numbered (f i x) (counted (i + 1) n f) (g i x) (counted-numbered f g (i + 1) n)

  pub listed-numbered : {A : Type 0} (f : List A → Reader A) → ((xs : List A) → Numbered (f xs)) → (n : ℕ) → Numbered (listed n f)
  unfolding listed
  listed-numbered f g n =
      counted-numbered (more f) (λ i xs. bind-numbered (f xs) (λ x. give (xs ++ x ∷ [])) (g xs) (λ x. give-numbered (xs ++ x ∷ []))) 0 n []

  turns-numbered : {S : Type 0} (on : S → Bool) (f : S → Reader S) → ((x : S) → Numbered (f x)) → (n : ℕ) (x : S)
      → Numbered (turns n on f x)
  unfolding turns
  turns-numbered on f g zero x = give-numbered x
  turns-numbered on f g (suc n) x =
      let again = bind-numbered (f x) (turns n on f) (g x) (turns-numbered on f g n) in
      pick-numbered (on x) (f x >>= turns n on f) (give x) again (give-numbered x)

  pub while-numbered : {S : Type 0} (on : S → Bool) (f : S → Reader S) → ((x : S) → Numbered (f x)) → (x : S) → Numbered (while on f x)
  unfolding while
  while-numbered on f g x = record { law = λ s at end n p e. (turns-numbered on f g (suc (end - at)) x).law s at end n p e }

  pub one_field-numbered : {A : Type 0} (r : Reader A) → Numbered r → Numbered (one_field r)
  unfolding one_field
  one_field-numbered {A} r g = record { law = λ s at end n p e. go s at end n p (r s at end) refl e }
    where
      go : (s : List ℕ) (at end n p : ℕ) (x : Answer A) → r s at end ≡ x → placed x at ≡ refused n p → among n ≡ true
      go s at end n p (got a m) q e = not-refused e
      go s at end n p (refused m l) q e = is_among {A = A} m n at p (g.law s at end m l q) e

  pub left_over-numbered : (most : ℕ) (other : Reader Fill) → Numbered other → Numbered (left_over most other)
  unfolding left_over
  left_over-numbered most other g = record { law = λ s at end n p e. go s at end n p (leb (end - at) most) e }
    where
      go : (s : List ℕ) (at end n p : ℕ) (b : Bool)
          → pick b (got (record { count = end - at; value = bits_from s at (end - at) }) (at + (end - at))) (other s at end)
          ≡ refused n p → among n ≡ true
      go s at end n p true e = not-refused e
      go s at end n p false e = g.law s at end n p e

  pub inside-numbered : {A : Type 0} (k short : ℕ) (r : Reader A) → among 10 ≡ true → among short ≡ true → Numbered r
      → Numbered (inside k short r)
  unfolding inside
  inside-numbered {A} k short r o q g = record { law = λ s at end n p e. go s at n p (leb (at + k) end) e }
    where
      other : (m : ℕ) (b : Bool) → among m ≡ true → among (pick b short m) ≡ true
      other m true e = q
      other m false e = e

      within : (s : List ℕ) (at n p : ℕ) (x : Answer A) → r s at (at + k) ≡ x → renumbered short x ≡ refused n p → among n ≡ true
      within s at n p (got a m) w e = not-refused e
      within s at n p (refused m l) w e =
          is_among {A = A} (pick (eqb m 10) short m) n l p (other m (eqb m 10) (g.law s at (at + k) m l w)) e

      go : (s : List ℕ) (at n p : ℕ) (b : Bool) → pick b (renumbered short (r s at (at + k))) (refused 10 at) ≡ refused n p → among n ≡ true
      go s at n p true e = within s at n p (r s at (at + k)) refl e
      go s at n p false e = is_among {A = A} 10 n at p o e

  ended-numbered : {A : Type 0} (a : A) → among 12 ≡ true → Numbered (ended a)
  unfolding ended
  ended-numbered {A} a o = record { law = λ s at end n p e. go at n p (leb (end - at) 7) e }
    where
      go : (at n p : ℕ) (b : Bool) → pick b (got a at) (refused 12 at) ≡ refused n p → among n ≡ true
      go at n p true e = not-refused e
      go at n p false e = is_among {A = A} 12 n at p o e

  -- a whole payload may be 12 besides
  pub whole-numbered : {A : Type 0} (r : Reader A) → among 12 ≡ true → Numbered r → (s : List ℕ) (n p : ℕ) → whole r s ≡ refused n p
      → among n ≡ true
  unfolding whole
  whole-numbered r o g s n p e = (bind-numbered r ended g (λ a. ended-numbered a o)).law s 0 _ n p e
