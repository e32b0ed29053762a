-- Elements of arrays: where an index is in reach, what stands past the end does not count.
-- Assumes nothing.
use Prim.Native.Nat.{ℕ, zero, suc, ◌<◌}
use mathlib.Core.Path.{◌≡◌, refl}
use mathlib.Core.List.{List, [], ◌∷◌}
use native.Mathlib.Omega.{arith}
use lib.ListN.{length, get_or}

pub get_d_there : {A : Type 0} (xs : List A) (i : ℕ) (d e : A) → i < length xs → get_or xs i d ≡ get_or xs i e
get_d_there [] i d e h = absurd (omega arith)
get_d_there (x ∷ xs) zero d e h = refl
get_d_there (x ∷ xs) (suc i) d e h = get_d_there xs i d e (omega arith)

-- four elements, one by one
pub of_four : {A : Type 0} (z : A) (xs : List A) → length xs ≡ 4 → get_or xs 0 z ∷ get_or xs 1 z ∷ get_or xs 2 z ∷ get_or xs 3 z ∷ [] ≡ xs
of_four z [] h = absurd (omega arith)
of_four z (a ∷ []) h = absurd (omega arith)
of_four z (a ∷ b ∷ []) h = absurd (omega arith)
of_four z (a ∷ b ∷ c ∷ []) h = absurd (omega arith)
of_four z (a ∷ b ∷ c ∷ d ∷ []) h = refl
of_four z (a ∷ b ∷ c ∷ d ∷ e ∷ xs) h = absurd (omega arith)
