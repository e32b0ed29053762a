-- A word a turn, added to the sum of those before it.
use Prim.Native.Nat.{◌-◌, ◌/◌}
use mathlib.Core.Path.{◌≡◌}
use lib.ListN.{length}
use Rattle.bench_words.specs.InnerSums.{sum_from, words_sum}
use Rattle.bench_words.proofs.words_sum.Given as goal

abbrev pub invariant-loop-k : goal.invariant-loop-k
invariant-loop-k g l =
    words_sum l.bytes l.end l.words ≡ sum_from l.bytes l.end l.words (length l.words / 2 - l.k) l.k l.sum
