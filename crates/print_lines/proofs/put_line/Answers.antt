-- A form takes at most twenty bytes for each of its own, so the line has room for all of it.
-- Assumes nothing.
use Prim.Native.Nat.{◌<◌}
use native.Mathlib.Omega.{arith}
use lib.ListN.{length}
use Rattle.print_lines.specs.InnerText.{form_text}
use Rattle.print_lines.proofs.TextLaws.{held, form_short}
use Rattle.print_lines.proofs.put_line.Goals as goal

pub returns : goal.returns
returns c =
    let a = c.args in
    let text = form_text a.form.now a.numbers.now in
    let room : length text < length a.line.now = omega (arith, form_short a.form.now a.numbers.now, c.requires) in
    held a.line.now _ _ text c.put_form.ensures room
