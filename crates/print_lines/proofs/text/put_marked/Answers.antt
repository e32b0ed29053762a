-- A byte that is no mark is put as it is; at a mark nothing is put past the numbers, else the number there.
-- Assumes nothing.
use borrow.Author.Tests.{eq-eqb, ne_eqb}
use lib.ListN.{drop_of_length-le}
use native.Mathlib.Omega.{arith}
use Rattle.print_lines.specs.InnerText.{with_text}
use Rattle.print_lines.proofs.TextLaws.{first-there}
use Rattle.print_lines.proofs.text.put_marked.Goals as goal

pub returns-then-byte-ne35 : goal.returns-then-byte-ne35
unfolding with_text
returns-then-byte-ne35 c = rw (ne_eqb _ _ c.if-byte-ne35.true) c.put_byte.ensures

pub returns-then-numbers-place : goal.returns-then-numbers-place
unfolding with_text
returns-then-numbers-place c =
    let a = c.args in
    rw (eq-eqb a.byte 35 c.if-byte-ne35.false, drop_of_length-le a.numbers.now {i = a.place} c.if-numbers-place.true)

pub returns : goal.returns
returns c =
    let a = c.args in
    rw (eq-eqb a.byte 35 c.if-byte-ne35.false, first-there a.numbers.now a.place (omega arith)) c.put_number.ensures
