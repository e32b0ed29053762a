-- By the number: a refusal leaves the answer, a frame that is accepted is put in it.
-- Assumes nothing.
use mathlib.Core.Path.{◌∙◌}
use borrow.Author.Tests.{eq-eqb, ne_eqb}
use Rattle.c_adts.proofs.told_frame.Goals as goal

pub returns-then-reading-ne0 : goal.returns-then-reading-ne0
returns-then-reading-ne0 c = (c.returned.ensures, rw (ne_eqb _ 0 c.if-reading-ne0.true))

pub returns : goal.returns
returns c = (c.returned-2.ensures, c.put_framed.ensures ∙ rw (eq-eqb _ 0 c.if-reading-ne0.false))
