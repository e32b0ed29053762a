-- Each turn puts the next: what is put so far and what is left make all of them.
-- Assumes nothing.
use mathlib.Core.Path.{◌≡◌}
use Rattle.print_lines.specs.InnerText.{line_of, with_text}
use Rattle.print_rows.proofs.EachLaws.{indices_from}
use Rattle.print_rows.proofs.lists.put_indices.Given as goal

abbrev pub invariant-loop-index : goal.invariant-loop-index
invariant-loop-index l =
    with_text (line_of l.line l.to) (indices_from l.indices l.index-index)
    ≡ with_text (line_of l.initial.line l.at) (indices_from l.indices 0)
