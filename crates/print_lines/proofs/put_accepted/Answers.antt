-- Even or odd, the form is the definition's, and fits.
-- Assumes nothing.
use borrow.Author.Tests.{eq-eqb, ne_eqb}
use Rattle.print_lines.specs.InnerListing.{accepted_line}
use Rattle.print_lines.proofs.put_accepted.Goals as goal

pub returns-then-k-eq0 : goal.returns-then-k-eq0
unfolding accepted_line
returns-then-k-eq0 c = rw (eq-eqb _ _ c.if-k-eq0.true) c.put_line.ensures

pub returns : goal.returns
unfolding accepted_line
returns c = rw (ne_eqb _ _ c.if-k-eq0.false) c.put_line-2.ensures
