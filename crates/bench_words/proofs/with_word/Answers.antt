-- A number that no table has adds nothing.
use Prim.Native.Nat.{ℕ}
use mathlib.Core.Path.{◌∙◌, ap}
use Rattle.bits.specs.Reader.{Answer}
use Rattle.bench_words.specs.InnerSums.{added}
use Rattle.bench_words.proofs.SumLaws.{no_table, a_table}
use Rattle.bench_words.proofs.with_word.Goals as goal

pub returns-then-t-ge22 : goal.returns-then-t-ge22
returns-then-t-ge22 g c = no_table _ _ _ _ _ c.if-t-ge22.true

pub returns : goal.returns
returns g c = c.added.ensures ∙ ap (λ (a : Answer ℕ). added c.args.sum a) c.word.ensures ∙ a_table _ _ _ _ _ c.if-t-ge22.false
