-- The constant and the definition's list compute to the same numbers.
use mathlib.Core.Path.{refl}
use Rattle.tables.specs.GeneratedWords.{all_lens}
use Rattle.bench_words.proofs.lens.Goals as goal

pub returns : goal.returns
unfolding all_lens
returns c = refl
