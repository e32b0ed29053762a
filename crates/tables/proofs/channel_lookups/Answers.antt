-- The constant and the definition's list compute to the same numbers.
use native.Mathlib.Omega.{arith}
use mathlib.Core.Path.{refl}
use Rattle.tables.specs.InnerGenerated.{channel_lookups}
use Rattle.tables.proofs.LentLaws.{channel_half}
use Rattle.tables.proofs.channel_lookups.Goals as goal

pub invariant_of-result : goal.invariant_of-result
unfolding channel_lookups
invariant_of-result c = record { lent = λ t l h. channel_half t h; known = omega arith }

pub returns : goal.returns
unfolding channel_lookups
returns c = refl
