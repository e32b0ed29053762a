-- Each turn puts the next: what is put so far and what is left make all of them.
-- Assumes nothing.
use mathlib.Core.Path.{refl, ◌∙◌}
use native.Mathlib.Omega.{arith}
use lib.IntN.{pos}
use lib.ListN.{get_or}
use mir.Syntax.{w16}
use mir.ValLaws.{to_z-of_z}
use borrow.Author.Rules.{rules}
use Rattle.print_lines.specs.InnerText.{line_of}
use Rattle.print_rows.specs.InnerEach.{value_text}
use Rattle.print_rows.proofs.EachLaws.{each_turn, each_last}
use Rattle.print_rows.proofs.lists.put_values.Goals as goal

pub loop-place-preserved : goal.loop-place-preserved
loop-place-preserved c =
    let l = c.loop-place in
    let xs = c.args.lines.now in
    let same = to_z-of_z w16 (get_or xs l.place (pos 0)) (search rules) in (
      omega (arith, c.put_value-to.ensures.1),
      each_turn value_text (line_of l.line l.to) _ xs l.place (pos 0) c.loop-place-test.true (rw same at c.put_value-to.ensures.0)
          ∙ l.invariant.1,
    )

pub returns : goal.returns
returns c =
    let l = c.loop-place in
    (each_last value_text (line_of l.line l.to) c.args.lines.now l.place c.loop-place-test.false ∙ l.invariant.1, omega arith)

pub loop-place-init : goal.loop-place-init
loop-place-init c = (omega arith, refl)
