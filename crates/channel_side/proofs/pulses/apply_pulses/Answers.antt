-- The pulses that are left are applied to the lines that are there, one a turn.
use mathlib.Core.Path.{◌≡◌, sym, ◌∙◌}
use borrow.Author.Rules.{rules}
use Rattle.bits.specs.Reader.{refused}
use Rattle.bits.specs.InnerAnswers.{ended_answer}
use Rattle.bits.proofs.LoopLaws.{counted-more, counted_stop, counted-done}
use Rattle.channel_side.proofs.LineLaws.{apply_is, apply_start}
use Rattle.channel_side.proofs.pulses.apply_pulses.Goals as goal

pub loop-k-init : goal.loop-k-init
loop-k-init c = λ s end. apply_start _ _ s _ end

pub returns-in_err-place : goal.returns-in_err-place
returns-in_err-place c = λ s end.
    let l = c.loop-k in
    let n = c.in_err-place.field-0.0.number in
    let p = c.in_err-place.field-0.0.place in
    let e : ended_answer c.from_residual.result c.apply_pulse.new.lines ≡ refused n p = search rules in
    e ∙ sym (l.invariant s end ∙ counted_stop _ _ _ _ _ _ _ _ _ c.loop-k-test.true (apply_is _ _ _ s _ end c.in_err-place.ensures))

pub loop-k-preserved : goal.loop-k-preserved
loop-k-preserved c = λ s end.
    c.loop-k.invariant s end ∙ counted-more _ _ _ _ _ _ _ _ _ c.loop-k-test.true (apply_is _ _ _ s _ end c.in_ok-place.ensures)

pub returns : goal.returns
returns c = λ s end. sym (c.loop-k.invariant s end ∙ counted-done _ _ _ _ _ _ _ c.loop-k-test.false)
