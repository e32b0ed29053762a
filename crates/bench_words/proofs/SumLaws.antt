-- The steps of a sum of words, as the code goes.
-- Assumes nothing.
use Prim.Native.Nat.{ℕ, suc, ◌+◌, ◌*◌, ◌-◌, ◌/◌, ◌<◌, ◌≤◌}
use mathlib.Core.Path.{◌≡◌}
use mathlib.Core.Bool.{true, false}
use mathlib.Core.List.{List}
use native.Mathlib.Omega.{arith}
use lib.Dec.{leb}
use lib.ListN.{length, get_or}
use borrow.Author.Tests.{lt-ltb, le-ltb}
use Rattle.tables.specs.Tables.{word_of}
use Rattle.tables.specs.GeneratedNames.{table_at}
use Rattle.bench_words.specs.InnerSums.{added, with_word, sum_from, words_sum}

pub no_table : (s : List ℕ) (end sum at t : ℕ) → 22 ≤ t → sum ≡ with_word s end sum at t
unfolding with_word
no_table s end sum at t h = rw (le-ltb _ _ h)

pub a_table : (s : List ℕ) (end sum at t : ℕ) → t < 22 → added sum (word_of (table_at t) s at end) ≡ with_word s end sum at t
unfolding with_word
a_table s end sum at t h = rw (lt-ltb _ _ h)

module _ (s : List ℕ) (end : ℕ) (words : List ℕ) where
  pub sum_more : (n k sum : ℕ) → k < n
      → sum_from s end words (n - k) k sum
      ≡ sum_from s end words (n - (k + 1)) (k + 1) (with_word s end sum (get_or words (2 * k) 0) (get_or words (2 * k + 1) 0))
  unfolding sum_from
  sum_more n k sum h = let q : n - k ≡ suc (n - (k + 1)) = omega arith in rw q

  pub sum_done : (n k sum : ℕ) → n ≤ k → sum_from s end words (n - k) k sum ≡ sum
  unfolding sum_from
  sum_done n k sum h = let q : n - k ≡ 0 = omega arith in rw q

  pub sum-outside : leb end (8 * length s) ≡ false → 0 ≡ words_sum s end words
  unfolding words_sum
  sum-outside e = rw e

  pub sum-start : leb end (8 * length s) ≡ true → words_sum s end words ≡ sum_from s end words (length words / 2 - 0) 0 0
  unfolding words_sum
  sum-start e = let q : length words / 2 - 0 ≡ length words / 2 = omega arith in rw (e, q)
