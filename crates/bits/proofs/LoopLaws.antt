-- Loops of readers keep the reading laws; and what a loop of the code cites, of which i of n turns are done.
-- Assumes nothing.
use Prim.Native.Nat.{ℕ, zero, suc, ◌+◌, ◌-◌, ◌<◌, ◌≤◌}
use mathlib.Core.Path.{◌≡◌, refl}
use mathlib.Core.List.{List, [], ◌∷◌, ◌++◌}
use native.Mathlib.Omega.{arith}
use Rattle.bits.specs.Reader.{Answer, got, refused, Reader, give, after}
use Rattle.bits.specs.Loop.{counted, more, listed}
use Rattle.bits.proofs.Lawful.{Accepting, Lawful, bind-accepting, bind_lawful, give-lawful}

module _ {S : Type 0} (f : ℕ → S → Reader S) where
  pub counted-lawful : ((i : ℕ) (x : S) → Lawful (f i x)) → (i n : ℕ) (x : S) → Lawful (counted i n f x)
  unfolding counted
  counted-lawful g i zero x = give-lawful x
  counted-lawful g i (suc n) x = bind_lawful (f i x) (counted (i + 1) n f) (g i x) (counted-lawful g (i + 1) n)

  pub counted-accepting : ((i : ℕ) (x : S) → Accepting (f i x)) → (i n : ℕ) (x : S) → Accepting (counted i n f x)
  unfolding counted
  counted-accepting g i zero x = (give-lawful x).accepts
  counted-accepting g i (suc n) x = bind-accepting (f i x) (counted (i + 1) n f) (g i x) (counted-accepting g (i + 1) n)

  pub counted_start : (n : ℕ) (x : S) (s : List ℕ) (at end : ℕ) → counted 0 n f x s at end ≡ counted 0 (n - 0) f x s at end
  counted_start n x s at end = let q : n - 0 ≡ n = omega arith in rw q

  pub counted-more : (i n : ℕ) (x y : S) (s : List ℕ) (at end m : ℕ) → i < n → f i x s at end ≡ got y m
      → counted i (n - i) f x s at end ≡ counted (i + 1) (n - (i + 1)) f y s m end
  unfolding counted
  counted-more i n x y s at end m h e = let q : n - i ≡ suc (n - (i + 1)) = omega arith in rw (q, e)

  pub counted_stop : (i n : ℕ) (x : S) (s : List ℕ) (at end r p : ℕ) → i < n → f i x s at end ≡ refused r p
      → counted i (n - i) f x s at end ≡ refused r p
  unfolding counted
  counted_stop i n x s at end r p h e = let q : n - i ≡ suc (n - (i + 1)) = omega arith in rw (q, e)

  pub counted-done : (i n : ℕ) (x : S) (s : List ℕ) (at end : ℕ) → n ≤ i → counted i (n - i) f x s at end ≡ got x at
  unfolding counted
  counted-done i n x s at end h = let q : n - i ≡ 0 = omega arith in rw q

-- steps that answer the same
pub counted_same : {S : Type 0} (f g : ℕ → S → Reader S)
    → ((i : ℕ) (x : S) (s : List ℕ) (at end : ℕ) → f i x s at end ≡ g i x s at end)
    → (i n : ℕ) (x : S) (s : List ℕ) (at end : ℕ) → counted i n f x s at end ≡ counted i n g x s at end
unfolding counted
counted_same f g e i zero x s at end = refl
counted_same {S} f g e i (suc n) x s at end = rw (e i x s at end) (go (g i x s at end) (counted_same f g e (i + 1) n))
  where
    go : (a : Answer S) → ((x : S) (s : List ℕ) (at end : ℕ) → counted (i + 1) n f x s at end ≡ counted (i + 1) n g x s at end)
        → after a (counted (i + 1) n f) s end ≡ after a (counted (i + 1) n g) s end
    go (got y next) r = r y s next end
    go (refused m p) r = refl

module _ {A : Type 0} (f : List A → Reader A) where
  pub listed-lawful : ((xs : List A) → Lawful (f xs)) → (n : ℕ) → Lawful (listed n f)
  unfolding listed
  listed-lawful g n = counted-lawful (more f)
      (λ i xs. bind_lawful (f xs) (λ x. give (xs ++ x ∷ [])) (g xs) (λ x. give-lawful (xs ++ x ∷ []))) 0 n []

  pub more-got : (i : ℕ) (xs : List A) (x : A) (s : List ℕ) (at end m : ℕ) → f xs s at end ≡ got x m
      → more f i xs s at end ≡ got (xs ++ x ∷ []) m
  more-got i xs x s at end m e = rw e

  pub more-refused : (i : ℕ) (xs : List A) (s : List ℕ) (at end r p : ℕ) → f xs s at end ≡ refused r p → more f i xs s at end ≡ refused r p
  more-refused i xs s at end r p e = rw e
