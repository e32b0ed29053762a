-- The constant and the definition's list compute to the same numbers.
use native.Mathlib.Omega.{arith}
use mathlib.Core.Path.{refl}
use Rattle.tables.specs.InnerGenerated.{stereo_lookups}
use Rattle.tables.proofs.LentLaws.{stereo-half}
use Rattle.tables.proofs.stereo_lookups.Goals as goal

pub invariant_of-result : goal.invariant_of-result
unfolding stereo_lookups
invariant_of-result c = record { lent = λ t l h. stereo-half t l; known = omega arith }

pub returns : goal.returns
unfolding stereo_lookups
returns c = refl
