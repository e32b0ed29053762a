-- By the size; the form, and at most 32 fill bits after it.
-- Assumes nothing.
use mathlib.Core.List.{[], ◌∷◌}
use native.Mathlib.Omega.{arith}
use borrow.Author.Tests.{eq-eqb, ne_eqb}
use Rattle.print_lines.specs.InnerText.{ascii, line}
use Rattle.print_lines.proofs.TextLaws.{form_short, two-held}
use Rattle.print_rows.specs.InnerFill.{fill_text}
use Rattle.print_rows.specs.InnerStereoRows.{part_row}
use Rattle.print_rows.proofs.FillLaws.{fill-short}
use Rattle.print_rows.proofs.contents.put_part.Goals as goal

pub returns-then-size-eq0 : goal.returns-then-size-eq0
unfolding part_row
returns-then-size-eq0 c = rw (eq-eqb _ _ c.if-size-eq0.true) c.put_line.ensures

pub returns : goal.returns
unfolding part_row
returns c =
    let a = c.args in
    let p = a.p in
    let marked = a.size ∷ p.body.phase ∷ [] in
    rw (ne_eqb _ _ c.if-size-eq0.false)
    (two-held a.line.now (line "  extension size # phase # fill " marked) (fill_text p.value p.count)
    c.put_form-at.ensures c.put_fill.ensures
    (omega (arith, form_short (ascii "  extension size # phase # fill ") marked, fill-short p.value p.count, c.requires)))
