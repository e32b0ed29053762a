-- By the number: a refusal sets the mark and leaves the answer; a reading that is accepted is put in both.
-- Assumes nothing.
use mathlib.Core.Path.{◌∙◌}
use borrow.Author.Tests.{eq-eqb, ne_eqb}
use Rattle.c_stereo.proofs.told.Goals as goal

pub returns-then-r-ne0 : goal.returns-then-r-ne0
returns-then-r-ne0 c = let no = ne_eqb _ 0 c.if-r-ne0.true in (c.returned.ensures, (rw no, rw no))

pub returns : goal.returns
returns c =
    let answer = c in
    let put = answer in
    let yes = eq-eqb _ 0 put.if-r-ne0.false in
    (c.returned-2.ensures, (put.put_state.ensures ∙ rw yes, answer.put_answer.ensures ∙ rw yes))
