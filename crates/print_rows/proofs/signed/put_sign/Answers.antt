-- A number below 0 has a minus.
-- Assumes nothing.
use Rattle.print_lines.specs.InnerText.{with_text}
use Rattle.print_rows.proofs.Signs.{minus, no_minus}
use Rattle.print_rows.proofs.signed.put_sign.Goals as goal

pub returns-then-below : goal.returns-then-below
unfolding with_text
returns-then-below c = rw (minus c.args.n c.ranges.n c.if-below.true) c.put_byte.ensures

pub returns : goal.returns
unfolding with_text
returns c = rw (no_minus c.args.n c.ranges.n c.if-below.false)
