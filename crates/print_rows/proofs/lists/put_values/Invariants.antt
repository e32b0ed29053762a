-- Each turn puts the next: what is put so far and what is left make all of them.
-- Assumes nothing.
use Prim.Native.Nat.{◌≤◌, ◌+◌, ◌*◌}
use mathlib.Core.Path.{◌≡◌}
use Rattle.print_lines.specs.InnerText.{line_of, with_text}
use Rattle.print_rows.proofs.EachLaws.{values_from}
use Rattle.print_rows.proofs.lists.put_values.Given as goal

abbrev pub invariant-loop-place : goal.invariant-loop-place
invariant-loop-place l =
    (l.to ≤ l.at + 12 * l.place)
    × (with_text (line_of l.line l.to) (values_from l.lines l.place) ≡ with_text (line_of l.initial.line l.at) (values_from l.lines 0))
