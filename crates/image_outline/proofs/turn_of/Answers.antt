-- By the parity of the payload's number, as `row_from` and `state_from` go.
-- Assumes nothing.
use Prim.Native.Nat.{◌%◌}
use mathlib.Core.Path.{◌∙◌}
use borrow.Author.Tests.{eq-eqb, ne_eqb}
use Rattle.image_outline.specs.Answers.{state_from}
use Rattle.image_outline.specs.Outline.{row_from}
use Rattle.image_outline.proofs.turn_of.Goals as goal

pub returns-then-k-eq0 : goal.returns-then-k-eq0
unfolding row_from state_from
returns-then-k-eq0 c =
    let even = eq-eqb (c.args.k % 2) 0 c.if-k-eq0.true in
    (c.channel_row-row.ensures ∙ rw even, rw even)

pub returns : goal.returns
unfolding row_from state_from
returns c =
    let odd = ne_eqb (c.args.k % 2) 0 c.if-k-eq0.false in
    (c.stereo_turn.ensures.0 ∙ rw odd, c.stereo_turn.ensures.1 ∙ rw odd)
