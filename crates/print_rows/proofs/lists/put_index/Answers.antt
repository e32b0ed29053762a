-- A space, and the index after it, which fits in 16 bits.
-- Assumes nothing.
use mathlib.Core.Path.{sym, ◌∙◌}
use native.Mathlib.Omega.{arith}
use lib.Signed.{nat_abs-le}
use mir.Syntax.{w8, w16}
use Rattle.bits.proofs.Signed.{wide_fits, widened}
use Rattle.print_lines.specs.InnerText.{line_of, ascii}
use Rattle.print_lines.proofs.TextLaws.{one_byte, after}
use Rattle.print_rows.specs.InnerSigned.{signed_text}
use Rattle.print_rows.specs.InnerEach.{next_index}
use Rattle.print_rows.proofs.lists.put_index.Goals as goal

pub overflow_cast-index : goal.overflow_cast-index
overflow_cast-index c = wide_fits c.args.index c.ranges.index

pub returns : goal.returns
unfolding next_index
returns c =
    let a = c.args in
    let l = line_of a.line.now a.at in
    let f = c.ranges.index in
    let same = widened w8 w16 128 a.index f (nat_abs-le a.index f.sfits) (omega arith) in
    after l (ascii " ") (signed_text a.index) (c.put_byte-to.ensures ∙ sym (one_byte l 32)) (rw same at c.put_signed.ensures)
