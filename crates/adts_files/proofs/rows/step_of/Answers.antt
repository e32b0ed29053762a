-- By the test of the number, as the definition makes it.
-- Assumes nothing.
use borrow.Author.Tests.{eq-eqb, ne_eqb}
use Rattle.adts_files.proofs.rows.step_of.Goals as goal

pub returns-then-cut_off : goal.returns-then-cut_off
returns-then-cut_off c = rw (eq-eqb _ 10 c.if-cut_off.true)

pub returns : goal.returns
returns c = rw (ne_eqb _ 10 c.if-cut_off.false)
