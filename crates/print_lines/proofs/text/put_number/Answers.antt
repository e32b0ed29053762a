-- A letter is one byte; the digits are the fewest that hold the number.
-- Assumes nothing.
use borrow.Author.Tests.{le-leb, lt-leb}
use Rattle.print_lines.specs.InnerText.{with_text, number_text}
use Rattle.print_lines.proofs.TextLaws.{fewest, few-digits}
use Rattle.print_lines.proofs.text.put_number.Goals as goal

pub returns-then-n-ge18446744073709551360 : goal.returns-then-n-ge18446744073709551360
unfolding number_text with_text
returns-then-n-ge18446744073709551360 c = rw (le-leb _ _ c.if-n-ge18446744073709551360.true) c.put_byte.ensures

pub returns : goal.returns
unfolding number_text
returns c =
    let n = c.args.n in
    let small = c.if-n-ge18446744073709551360.false in
    let f = c.decimal-count.ensures.len in
    let places = fewest n c.decimal-count.result f (few-digits n c.decimal-count.result f small) in
    rw (lt-leb _ _ small, places, ← c.decimal-count.ensures.digits) c.put.ensures
