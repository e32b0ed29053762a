-- Each payload that is printed is one of the image's, and is printed from the state before it.
-- Assumes nothing.
use mathlib.Core.Path.{◌≡◌}
use Rattle.print.specs.InnerStates.{printed_from}
use Rattle.print.proofs.print_payloads.Given as goal

abbrev pub invariant-loop-k : goal.invariant-loop-k
invariant-loop-k g l = l.state ≡ printed_from l.full l.image l.k
