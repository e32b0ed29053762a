-- The words, and at most 12 bytes for each line after them: the line has room afterwards, so all of the text is there.
-- Assumes nothing.
use mathlib.Core.Path.{ap}
use native.Mathlib.Omega.{arith}
use Rattle.print_lines.specs.InnerText.{Line, line_of, ascii}
use Rattle.print_lines.proofs.TextLaws.{text_most, roomy, after}
use Rattle.print_rows.specs.InnerEach.{values_text}
use Rattle.print_rows.specs.InnerChannelRows.{values_row}
use Rattle.print_rows.proofs.channels.put_values.Goals as goal

pub returns : goal.returns
unfolding values_row
returns c =
    let a = c.args in
    let l = line_of a.line.now 0 in
    let start = ap (λ (x : Line). x.at) c.put-at.ensures in
    let most = text_most l (ascii "  values") in
    roomy a.line.now c.put_values.new.line c.put_values.result (values_row a.lines.now)
    (after l (ascii "  values") (values_text a.lines.now) c.put-at.ensures c.put_values.ensures.0)
    (omega (arith, c.put_values.ensures.1, c.requires))
