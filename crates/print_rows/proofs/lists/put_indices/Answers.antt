-- Each turn puts the next: what is put so far and what is left make all of them.
-- Assumes nothing.
use mathlib.Core.Path.{refl, ◌∙◌}
use lib.IntN.{pos}
use lib.ListN.{get_or}
use mir.Syntax.{w8}
use mir.ValLaws.{to_z-of_z}
use borrow.Author.Rules.{rules}
use Rattle.print_lines.specs.InnerText.{line_of}
use Rattle.print_rows.specs.InnerEach.{next_index}
use Rattle.print_rows.proofs.EachLaws.{each_turn, each_last}
use Rattle.print_rows.proofs.lists.put_indices.Goals as goal

pub loop-index-preserved : goal.loop-index-preserved
loop-index-preserved c =
    let l = c.loop-index in
    let i = l.index-index in
    let xs = c.args.indices.now in
    let same = to_z-of_z w8 (get_or xs i (pos 0)) (search rules) in
    each_turn (λ place z. next_index z) (line_of l.line l.to) _ xs i (pos 0) c.loop-index-test.true (rw same at c.put_index-to.ensures)
    ∙ l.invariant

pub returns : goal.returns
returns c =
    let l = c.loop-index in
    each_last (λ place z. next_index z) (line_of l.line l.to) c.args.indices.now l.index-index c.loop-index-test.false ∙ l.invariant

pub loop-index-init : goal.loop-index-init
loop-index-init c = refl
