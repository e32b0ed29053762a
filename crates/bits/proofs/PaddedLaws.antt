-- Arrays that are filled from the front: the first i elements are what was read, the rest is as it was made.
-- Assumes nothing.
use Prim.Native.Nat.{ℕ, zero, suc, ◌+◌, ◌-◌, ◌<◌, ◌≤◌}
use mathlib.Core.Path.{◌≡◌, refl, sym, ◌∙◌, ap}
use mathlib.Core.List.{List, [], ◌∷◌, ◌++◌}
use native.Mathlib.Omega.{arith}
use native.Mathlib.Numerals.{add-one}
use lib.ListN.{length, take, drop, set, get_or, replicate, length-replicate, length-set, take-append-drop}
use lib.Seq.{drop-drop, drop-set-lt, take-suc-set, length-take-le, get_or_at}
use Rattle.bits.specs.Lists.{padded}

module _ {A : Type 0} (n : ℕ) (z : A) where
  -- the elements from i on are z
  pub record Filled (i : ℕ) (xs : List A) : Type 0 where
    pub long : length xs ≡ n
    pub rest : drop i xs ≡ replicate (n - i) z

  pub filled_none : Filled 0 (replicate n z)
  filled_none = record { long = length-replicate n z; rest = let e : n - 0 ≡ n = omega arith in rw e }

  drop-one : (k : ℕ) → drop 1 (replicate k z) ≡ replicate (k - 1) z
  drop-one zero = refl
  drop-one (suc k) = let e : suc k - 1 ≡ k = omega arith in rw e

  pub filled-set : (i : ℕ) (xs : List A) (x : A) → Filled i xs → Filled (i + 1) (set xs i x)
  filled-set i xs x f =
      let q : n - i - 1 ≡ n - (i + 1) = omega arith in
      record {
        long = length-set xs i x ∙ f.long;
        rest = drop-set-lt (i + 1) xs i x (omega arith) ∙ sym (drop-drop 1 i xs) ∙ ap (drop 1) f.rest ∙ drop-one (n - i)
            ∙ ap (λ (k : ℕ). replicate k z) q;
      }

  -- one element more
  pub taken-set : (i : ℕ) (xs : List A) (x : A) → i < n → Filled i xs → take (i + 1) (set xs i x) ≡ take i xs ++ x ∷ []
  taken-set i xs x h f = rw add-one (take-suc-set xs i x (rw f.long h))

  pub taken-long : (i : ℕ) (xs : List A) → i ≤ n → Filled i xs → length (take i xs) ≡ i
  taken-long i xs h f = length-take-le i xs (rw f.long h)

  -- what was read, filled up
  pub filled-padded : (i : ℕ) (xs : List A) → i ≤ n → Filled i xs → padded n z (take i xs) ≡ xs
  filled-padded i xs h f = rw (taken-long i xs h f, ← f.rest) (take-append-drop i xs)

  -- the last that was read
  pub last_set : (i : ℕ) (xs : List A) (x d : A) → i < n → Filled i xs → get_or (take (i + 1) (set xs i x)) (i + 1 - 1) d ≡ x
  last_set i xs x d h f = let q : i + 1 - 1 ≡ i =
      omega arith in rw (q, taken-set i xs x h f) (get_or_at (take i xs) x [] d i (taken-long i xs (omega arith) f))
