-- By the parity of the payload's number, as `state_from` goes: what is printed are the bytes of the payload.
-- Assumes nothing.
use Prim.Native.Nat.{◌%◌}
use mathlib.Core.Path.{◌∙◌}
use borrow.Author.Tests.{eq-eqb, ne_eqb}
use Rattle.image_outline.specs.Answers.{state_from}
use Rattle.image.proofs.PartLaws.{part-is}
use Rattle.print.proofs.print_details.Goals as goal

pub returns-then-k-eq0 : goal.returns-then-k-eq0
unfolding state_from
returns-then-k-eq0 g c = rw (eq-eqb (c.args.k % 2) 0 c.if-k-eq0.true)

pub returns : goal.returns
unfolding state_from
returns g c =
    let a = c.args in
    let place = c.known_part-part.ensures.0 ∙ part-is a.image.now a.k c.requires in
    rw (ne_eqb (a.k % 2) 0 c.if-k-eq0.false) (rw place at c.print_stereo.ensures)
