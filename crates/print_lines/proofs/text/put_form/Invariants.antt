-- Each turn puts what stands for the next byte: what is put so far and what is left of the form make all of it.
-- Assumes nothing.
use Prim.Native.Nat.{◌≤◌}
use mathlib.Core.Path.{◌≡◌}
use lib.ListN.{drop}
use Rattle.print_lines.specs.InnerText.{line_of, with_text, form_text}
use Rattle.print_lines.proofs.text.put_form.Given as goal

abbrev pub invariant-loop-byte : goal.invariant-loop-byte
invariant-loop-byte l =
    (l.place ≤ l.byte-index)
    × (with_text (line_of l.line l.to) (form_text (drop l.byte-index l.form) (drop l.place l.numbers))
    ≡ with_text (line_of l.initial.line l.at) (form_text l.form l.numbers))
