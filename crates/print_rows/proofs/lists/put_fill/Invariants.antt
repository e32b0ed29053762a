-- Each turn puts the next lower bit: what is put so far and what is left make all of them.
-- Assumes nothing.
use Prim.Native.Nat.{min}
use mathlib.Core.Path.{◌≡◌}
use Rattle.io.specs.Digits.{last_digits}
use Rattle.print_lines.specs.InnerText.{line_of, with_text}
use Rattle.print_rows.proofs.lists.put_fill.Given as goal

abbrev pub invariant-loop-k : goal.invariant-loop-k
invariant-loop-k l =
    with_text (line_of l.line l.to) (last_digits 2 l.k l.value)
    ≡ with_text (line_of l.initial.line l.at) (last_digits 2 (min l.count 32) l.value)
