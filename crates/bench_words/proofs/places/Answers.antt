-- The constant and the definition's list compute to the same numbers.
use mathlib.Core.Path.{refl}
use Rattle.bench_words.specs.InnerTable.{places}
use Rattle.bench_words.proofs.places.Goals as goal

pub returns : goal.returns
unfolding places
returns c = refl
