-- The groups that are left are read into the lines that are there, one a turn.
use mathlib.Core.Path.{◌≡◌, sym, ◌∙◌}
use native.Mathlib.Omega.{arith}
use borrow.Author.Rules.{rules}
use Rattle.bits.specs.InnerAnswers.{ended_answer}
use Rattle.bits.specs.Reader.{refused}
use Rattle.channel_lines.proofs.SpectrumLaws.{lines-stop, lines_more, lines-done}
use Rattle.channel_lines.proofs.lines.read_groups.Goals as goal

pub returns-in_err-place : goal.returns-in_err-place
returns-in_err-place c =
    let r = c.in_err-place.field-0.0 in
    let e : ended_answer c.from_residual.result c.read_group.new.lines ≡ refused r.number r.place = search rules in
    e ∙ sym (c.loop-from.invariant.2
    ∙ lines-stop _ _ _ _ _ _ _ _ _ _ _ _ _ c.group_length-windows.ensures.0 (sym c.in_err-place.ensures))

pub loop-from-preserved : goal.loop-from-preserved
loop-from-preserved c =
    let g = c.group_length-windows.ensures in (
      omega arith,
      omega arith,
      c.loop-from.invariant.2 ∙ lines_more _ _ _ _ _ _ _ _ _ _ _ _ _ g.0 (sym c.in_ok-place.ensures),
    )

pub returns : goal.returns
returns c = sym (c.loop-from.invariant.2 ∙ lines-done _ _ _ _ _ _ _ _ _ _ c.loop-from-test.false)
