-- By the code's own tests.
-- Assumes nothing.
use borrow.Author.Tests.{eq-eqb, ne_eqb}
use Rattle.print_rows.proofs.marks.direction.Goals as goal

pub returns-then-not-sent : goal.returns-then-not-sent
returns-then-not-sent c = rw (c.if-not-sent.true)

pub returns-then-time-eq1 : goal.returns-then-time-eq1
returns-then-time-eq1 c = rw (c.if-not-sent.false, eq-eqb _ _ c.if-time-eq1.true)

pub returns : goal.returns
returns c = rw (c.if-not-sent.false, ne_eqb _ _ c.if-time-eq1.false)
