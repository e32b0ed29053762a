-- Each turn puts the next of the words' bytes: what is put so far and what is left of the words make all of them.
-- Assumes nothing.
use mathlib.Core.Path.{◌≡◌}
use lib.ListN.{drop}
use Rattle.print_lines.specs.InnerText.{line_of, with_text}
use Rattle.print_lines.proofs.text.put.Given as goal

abbrev pub invariant-loop-byte : goal.invariant-loop-byte
invariant-loop-byte l = with_text (line_of l.line l.to) (drop l.byte-index l.words) ≡ with_text (line_of l.initial.line l.at) l.words
