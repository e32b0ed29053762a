-- Runs of the lists of all words and lengths: how long they are, and that each length is from 1 to 20.
-- Assumes nothing.
use Prim.Native.Nat.{ℕ, zero, suc, ◌+◌, ◌<◌, ◌≤◌}
use mathlib.Core.Path.{◌≡◌, refl}
use mathlib.Core.List.{List, [], ◌∷◌}
use mathlib.Core.Bool.{Bool, true, ◌&&◌}
use native.Mathlib.Omega.{arith}
use native.Mathlib.Nat.{not-suc-le-zero}
use lib.Dec.{T, leb, leb→le}
use lib.ListN.{length, get_or, length-take, length-drop}
use lib.Seq.{get_or-take, get_or-drop}
use Rattle.bits.proofs.Bools.{and_left, and_right}
use Rattle.tables.specs.GeneratedWords.{all_codes, all_lens}
use Rattle.tables.specs.Tables.{run}

pub codes-count : length all_codes ≡ 1604
unfolding all_codes
codes-count = refl

pub lens-count : length all_lens ≡ 1604
unfolding all_lens
lens-count = refl

-- each is from one number to another
abbrev all_between : ℕ → ℕ → List ℕ → Bool
all_between low high [] = true
all_between low high (x ∷ xs) = (leb low x && leb x high) && all_between low high xs

between_at : (low high : ℕ) (xs : List ℕ) → T (all_between low high xs) → (i : ℕ) → i < length xs
    → (low ≤ get_or xs i 0) × (get_or xs i 0 ≤ high)
between_at low high [] t i h = absurd (not-suc-le-zero h)
between_at low high (x ∷ xs) t zero h =
    let both = and_left (leb low x && leb x high) (all_between low high xs) t in
    (leb→le low x (and_left (leb low x) (leb x high) both), leb→le x high (and_right (leb low x) (leb x high) both))
between_at low high (x ∷ xs) t (suc i) h =
    between_at low high xs (and_right (leb low x && leb x high) (all_between low high xs) t) i (omega arith)

lens_between : T (all_between 1 20 all_lens)
unfolding all_lens
lens_between = tt

pub run_length : (xs : List ℕ) (first count : ℕ) → first + count ≤ length xs → length (run xs first count) ≡ count
run_length xs first count h = simp (length-take, length-drop) (omega arith)

pub run_at : (xs : List ℕ) (first count i : ℕ) → i < count → get_or (run xs first count) i 0 ≡ get_or xs (first + i) 0
run_at xs first count i h = rw (get_or-take, get_or-drop)

-- a word has a bit at least, and 20 at most
pub run_sizes : (first count k : ℕ) → first + count ≤ 1604 → k < count
    → (1 ≤ get_or (run all_lens first count) k 0) × (get_or (run all_lens first count) k 0 ≤ 20)
run_sizes first count k h g =
    rw (run_at all_lens first count k g) (between_at 1 20 all_lens lens_between (first + k) (omega (arith, lens-count)))
