-- The windows that are left are read into the lines that are there, one a turn.
use mathlib.Core.Path.{◌≡◌, sym, ◌∙◌}
use borrow.Author.Rules.{rules}
use Rattle.bits.specs.InnerAnswers.{ended_answer}
use Rattle.bits.specs.Reader.{refused}
use Rattle.bits.proofs.LoopLaws.{counted-more, counted_stop, counted-done}
use Rattle.channel_lines.specs.Spectrum.{window_band}
use Rattle.channel_lines.proofs.SpectrumLaws.{windows-start}
use Rattle.channel_lines.proofs.lines.read_windows.Goals as goal

pub loop-v-init : goal.loop-v-init
loop-v-init c = windows-start _ _ _ _ _ _ _ _ _

pub returns-in_err-place : goal.returns-in_err-place
returns-in_err-place c =
    let x = c.args in
    let r = c.in_err-place.field-0.0 in
    let e : ended_answer c.from_residual.result c.read_band.new.lines ≡ refused r.number r.place = search rules in
    e ∙ sym (c.loop-v.invariant
    ∙ counted_stop (window_band x.number x.first x.width) _ _ _ _ _ _ _ _ c.loop-v-test.true (sym c.in_err-place.ensures))

pub loop-v-preserved : goal.loop-v-preserved
loop-v-preserved c =
    let x = c.args in
    c.loop-v.invariant
    ∙ counted-more (window_band x.number x.first x.width) _ _ _ _ _ _ _ _ c.loop-v-test.true (sym c.in_ok-place.ensures)

pub returns : goal.returns
returns c = sym (c.loop-v.invariant ∙ counted-done _ _ _ _ _ _ _ c.loop-v-test.false)
