-- An entry of the table is small.
use mathlib.Core.Path.{sym}
use native.Mathlib.Omega.{arith}
use Rattle.channel_side.proofs.FactorLaws.{entry_below}
use Rattle.channel_side.proofs.factors.read_factor.Goals as goal

pub overflow_add-sum : goal.overflow_add-sum
overflow_add-sum c = omega (arith, entry_below _ _ _ _ _ (sym c.in_ok-entry.ensures))
