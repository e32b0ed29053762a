-- A space, and the number after it.
-- Assumes nothing.
use mathlib.Core.Path.{sym, ◌∙◌}
use Rattle.print_lines.specs.InnerText.{line_of, ascii, number_text}
use Rattle.print_lines.proofs.TextLaws.{one_byte, after}
use Rattle.print_rows.specs.InnerEach.{next_number}
use Rattle.print_rows.proofs.lists.put_next.Goals as goal

pub returns : goal.returns
unfolding next_number
returns c =
    let a = c.args in
    let l = line_of a.line.now a.at in
    after l (ascii " ") (number_text a.number) (c.put_byte-to.ensures ∙ sym (one_byte l 32)) c.put_number.ensures
