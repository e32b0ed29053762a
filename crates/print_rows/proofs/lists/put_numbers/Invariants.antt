-- Each turn puts the next of the first n: what is put so far and what is left make all of them.
-- Assumes nothing.
use mathlib.Core.Path.{◌≡◌}
use Rattle.print_lines.specs.InnerText.{line_of, with_text}
use Rattle.print_rows.proofs.EachLaws.{numbers_from}
use Rattle.print_rows.proofs.lists.put_numbers.Given as goal

abbrev pub invariant-loop-number : goal.invariant-loop-number
invariant-loop-number l =
    with_text (line_of l.line l.to) (numbers_from l.first l.number-index)
    ≡ with_text (line_of l.initial.line l.at) (numbers_from l.first 0)
