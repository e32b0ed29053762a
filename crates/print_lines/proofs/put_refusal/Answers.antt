-- Even or odd, the form is the definition's.
-- Assumes nothing.
use borrow.Author.Tests.{eq-eqb, ne_eqb}
use Rattle.print_lines.specs.InnerListing.{refusal_text}
use Rattle.print_lines.proofs.put_refusal.Goals as goal

pub returns-then-k-eq0 : goal.returns-then-k-eq0
unfolding refusal_text
returns-then-k-eq0 c = rw (eq-eqb _ _ c.if-k-eq0.true) c.put_form.ensures

pub returns : goal.returns
unfolding refusal_text
returns c = rw (ne_eqb _ _ c.if-k-eq0.false) c.put_form-2.ensures
