-- The form, and at most four borders after it.
-- Assumes nothing.
use mathlib.Core.Path.{◌≡◌}
use mathlib.Core.List.{[], ◌∷◌}
use native.Mathlib.Omega.{arith}
use lib.ListN.{length, take}
use Rattle.print_lines.specs.InnerText.{ascii, line}
use Rattle.print_lines.proofs.TextLaws.{form_short, two-held}
use Rattle.print_rows.specs.InnerEach.{numbers_text}
use Rattle.print_rows.specs.InnerStereoRows.{border_count, frame_row}
use Rattle.print_rows.proofs.EachLaws.{numbers-short}
use borrow.Author.Rules.{rules}
use Rattle.print_rows.proofs.contents.put_frame.Goals as goal

pub returns : goal.returns
unfolding frame_row
returns c =
    let a = c.args in
    let f = a.f in
    let four : 4 ≡ length f.borders = search rules in
    two-held a.line.now (line "  class # borders" (f.class ∷ [])) (numbers_text (take (border_count f) f.borders))
    c.put_form-at.ensures (rw c.border_count.ensures at c.put_numbers.ensures)
    (omega (arith, form_short (ascii "  class # borders") (f.class ∷ []), numbers-short (border_count f) f.borders, c.requires))
