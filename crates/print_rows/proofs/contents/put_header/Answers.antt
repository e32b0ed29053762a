-- By the code's own test; the form is the definition's, and fits.
-- Assumes nothing.
use borrow.Author.Tests.{eq-eqb, ne_eqb}
use Rattle.print_lines.specs.InnerText.{form_text}
use Rattle.print_rows.specs.InnerStereoRows.{header_row}
use Rattle.print_rows.proofs.contents.put_header.Goals as goal

pub returns-then-h-ne1 : goal.returns-then-h-ne1
unfolding header_row form_text
returns-then-h-ne1 c = rw (ne_eqb _ _ c.if-h-ne1.true) c.put_line.ensures

pub returns : goal.returns
unfolding header_row
returns c =
    rw (eq-eqb _ _ c.if-h-ne1.false)
    (rw (c.mode-iid.ensures, c.mode-icc.ensures) at c.put_line-2.ensures)
