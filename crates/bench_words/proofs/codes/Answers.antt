-- The constant and the definition's list compute to the same numbers.
use mathlib.Core.Path.{refl}
use Rattle.tables.specs.GeneratedWords.{all_codes}
use Rattle.bench_words.proofs.codes.Goals as goal

pub returns : goal.returns
unfolding all_codes
returns c = refl
