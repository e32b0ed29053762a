-- A word a turn, added to the sum of those before it.
use mathlib.Core.Path.{sym, ◌∙◌}
use Rattle.bench_words.proofs.SumLaws.{sum-outside, sum-start, sum_more, sum_done}
use Rattle.bench_words.proofs.words_sum.Goals as goal

pub returns-then-not-is_inside : goal.returns-then-not-is_inside
returns-then-not-is_inside g c = sum-outside _ _ _ (sym c.is_inside.ensures ∙ c.if-not-is_inside.true)

pub loop-k-init : goal.loop-k-init
loop-k-init g c = sum-start _ _ _ (sym c.is_inside.ensures ∙ c.if-not-is_inside.false)

pub loop-k-preserved : goal.loop-k-preserved
loop-k-preserved g c = rw c.with_word-sum.ensures (c.loop-k.invariant ∙ sum_more _ _ _ _ _ _ c.loop-k-test.true)

pub returns : goal.returns
returns g c = sym (c.loop-k.invariant ∙ sum_done _ _ _ _ _ _ c.loop-k-test.false)
