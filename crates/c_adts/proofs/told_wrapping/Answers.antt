-- By the number: a refusal leaves the answer, the length of a frame that was made is put in it.
-- Assumes nothing.
use mathlib.Core.Path.{◌∙◌}
use borrow.Author.Tests.{eq-eqb, ne_eqb}
use Rattle.c_adts.proofs.told_wrapping.Goals as goal

pub returns-then-r-ne0 : goal.returns-then-r-ne0
returns-then-r-ne0 c = (c.returned.ensures, rw (ne_eqb _ 0 c.if-r-ne0.true))

pub returns : goal.returns
returns c = (c.returned-2.ensures, c.put_length.ensures ∙ rw (eq-eqb _ 0 c.if-r-ne0.false))
