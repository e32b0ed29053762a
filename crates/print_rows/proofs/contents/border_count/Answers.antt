-- By the class, as the definition goes.
-- Assumes nothing.
use borrow.Author.Tests.{eq-eqb, ne_eqb}
use Rattle.print_rows.proofs.contents.border_count.Goals as goal

pub returns-then-f-eq1 : goal.returns-then-f-eq1
returns-then-f-eq1 c = rw (eq-eqb _ _ c.if-f-eq1.true)

pub returns : goal.returns
returns c = rw (ne_eqb _ _ c.if-f-eq1.false)
