-- By the code's own test; a part is what its size announces.
-- Assumes nothing.
use borrow.Author.Tests.{eq-eqb, ne_eqb}
use Rattle.print_lines.specs.InnerText.{form_text}
use Rattle.print_rows.specs.InnerStereoRows.{extension_row}
use Rattle.print_rows.proofs.contents.put_extension.Goals as goal

pub returns-then-x-ne1 : goal.returns-then-x-ne1
unfolding extension_row form_text
returns-then-x-ne1 c = rw (ne_eqb _ _ c.if-x-ne1.true) c.put_line.ensures

pub returns : goal.returns
unfolding extension_row
returns c = rw (eq-eqb _ _ c.if-x-ne1.false) c.put_part.ensures
