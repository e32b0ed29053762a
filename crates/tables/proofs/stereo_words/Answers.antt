-- The constant and the definition's list compute to the same numbers.
use mathlib.Core.Path.{refl}
use Rattle.tables.specs.InnerGenerated.{stereo_words}
use Rattle.tables.proofs.stereo_words.Goals as goal

pub invariant_of-result : goal.invariant_of-result
unfolding stereo_words
invariant_of-result c = record { lent = refl }

pub returns : goal.returns
unfolding stereo_words
returns c = refl
