-- The tests are the definition's, in its order.
use native.Mathlib.Omega.{arith}
use Rattle.words.proofs.LookupSteps.{answered-cut, answered-none, answered-got}
use Rattle.words.proofs.lookup.answer.Goals as goal

pub returns-then-saturating_sub-size : goal.returns-then-saturating_sub-size
returns-then-saturating_sub-size c = rw c.refused.ensures (answered-cut _ _ _ (omega arith))

pub returns-then-entry-eq511 : goal.returns-then-entry-eq511
returns-then-entry-eq511 c = rw c.refused-then-entry-eq511.ensures (answered-none _ _ _ (omega arith) (omega arith))

pub returns : goal.returns
returns c = answered-got _ _ _ (omega arith) c.if-entry-eq511.false
