-- The bands that are left are read into the lines that are there, one a turn.
use mathlib.Core.Path.{◌≡◌, sym, ◌∙◌}
use borrow.Author.Rules.{rules}
use Rattle.bits.specs.InnerAnswers.{ended_answer}
use Rattle.bits.specs.Reader.{refused}
use Rattle.bits.proofs.LoopLaws.{counted-more, counted_stop, counted-done}
use Rattle.channel_lines.proofs.lines.read_group.Goals as goal

pub returns-in_err-place : goal.returns-in_err-place
returns-in_err-place c =
    let r = c.in_err-place.field-0.0 in
    let e : ended_answer c.from_residual.result c.read_group_band.new.lines ≡ refused r.number r.place = search rules in
    e ∙ sym (c.loop-b.invariant ∙ counted_stop _ _ _ _ _ _ _ _ _ c.loop-b-test.true (sym c.in_err-place.ensures))

pub loop-b-preserved : goal.loop-b-preserved
loop-b-preserved c = c.loop-b.invariant ∙ counted-more _ _ _ _ _ _ _ _ _ c.loop-b-test.true (sym c.in_ok-place.ensures)

pub returns : goal.returns
returns c = sym (c.loop-b.invariant ∙ counted-done _ _ _ _ _ _ _ c.loop-b-test.false)
