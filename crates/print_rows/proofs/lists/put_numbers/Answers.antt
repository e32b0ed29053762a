-- Each turn puts the next of the first n: what is put so far and what is left make all of them.
-- Assumes nothing.
use mathlib.Core.Path.{refl, ◌∙◌}
use lib.ListN.{take}
use Rattle.print_lines.specs.InnerText.{line_of}
use Rattle.print_rows.specs.InnerEach.{next_number}
use Rattle.print_rows.proofs.EachLaws.{each_turn, each_last, first_few}
use Rattle.print_rows.proofs.lists.put_numbers.Goals as goal

pub loop-number-init : goal.loop-number-init
loop-number-init c = refl

pub loop-number-preserved : goal.loop-number-preserved
loop-number-preserved c =
    let l = c.loop-number in
    let first = take c.min.result c.args.numbers.now in
    each_turn (λ place x. next_number x) (line_of l.line l.to) _ first l.number-index 0 c.loop-number-test.true c.put_next-to.ensures
    ∙ l.invariant

pub returns : goal.returns
returns c =
    let l = c.loop-number in
    let a = c.args in
    let first = take c.min.result a.numbers.now in
    rw (← first_few a.n c.min.result a.numbers.now c.min.ensures)
    (each_last (λ place x. next_number x) (line_of l.line l.to) first l.number-index c.loop-number-test.false ∙ l.invariant)
