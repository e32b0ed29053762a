-- The sign, and how far the number is from 0.
-- Assumes nothing.
use lib.IntN.{nat_abs}
use mir.Syntax.{w16}
use mir.ValLaws.{to_z-of_z}
use Rattle.print_lines.specs.InnerText.{line_of, number_text}
use Rattle.print_rows.specs.InnerSigned.{sign_text, signed_text}
use Rattle.print_lines.proofs.TextLaws.{after}
use Rattle.print_rows.proofs.signed.put_signed.Goals as goal

pub returns : goal.returns
unfolding signed_text
returns c =
    let a = c.args in
    let same = to_z-of_z w16 a.n c.ranges.n in
    after (line_of a.line.now a.at) (sign_text a.n) (number_text (nat_abs a.n)) (rw same at c.put_sign-to.ensures)
    (rw (c.magnitude.ensures, same) at c.put_number.ensures)
