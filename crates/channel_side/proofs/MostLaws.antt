-- Numbers of a list that are all at most a number.
-- Assumes nothing.
use Prim.Native.Nat.{ℕ, zero, suc, ◌≤◌}
use mathlib.Core.List.{List, [], ◌∷◌}
use lib.ListN.{get_or, set}

pub set-most : (m : ℕ) (xs : List ℕ) (k v : ℕ) → v ≤ m → ((j : ℕ) → get_or xs j 0 ≤ m) → (j : ℕ) → get_or (set xs k v) j 0 ≤ m
set-most m [] k v h l j = l j
set-most m (x ∷ xs) zero v h l zero = h
set-most m (x ∷ xs) zero v h l (suc j) = l (suc j)
set-most m (x ∷ xs) (suc k) v h l zero = l zero
set-most m (x ∷ xs) (suc k) v h l (suc j) = set-most m xs k v h (λ i. l (suc i)) j
