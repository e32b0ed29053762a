-- The number tells which of the two lines it is.
-- Assumes nothing.
use borrow.Author.Tests.{eq-eqb, ne_eqb}
use Rattle.print_lines.specs.InnerListing.{payload_line}
use Rattle.print_lines.proofs.put_payload.Goals as goal

pub returns-then-p-ne0 : goal.returns-then-p-ne0
unfolding payload_line
returns-then-p-ne0 c = rw (ne_eqb _ _ c.if-p-ne0.true) c.put_refused.ensures

pub returns : goal.returns
unfolding payload_line
returns c = rw (eq-eqb _ _ c.if-p-ne0.false) c.put_accepted.ensures
