-- 2 where the answer does not fit, then what the part is refused with; else its two words.
-- Assumes nothing.
use mathlib.Core.Path.{sym, ap, ◌∙◌}
use native.Mathlib.Omega.{arith}
use lib.ListN.{length}
use borrow.Author.Tests.{le-leb, lt-leb, eq-eqb, ne_eqb}
use Rattle.c_image.specs.ImageCalls.{part_number, part_answer_after}
use Rattle.c_image.proofs.oarcradler_find_part.Goals as goal

pub returns-then-answer-lt8 : goal.returns-then-answer-lt8
unfolding part_number part_answer_after
returns-then-answer-lt8 c =
    let no = lt-leb 8 _ c.if-answer-lt8.true in
    (rw no, rw no)

pub returns-then-part-ne0 : goal.returns-then-part-ne0
unfolding part_number part_answer_after
returns-then-part-ne0 c =
    let at-part-of = c in
    let entry = at-part-of in
    let r = at-part-of.part_of-part in
    let a = entry.args in
    let room = le-leb 8 (length a.answer.now) (omega arith) in
    let no = ne_eqb _ 0 (rw r.ensures.0 at c.if-part-ne0.true) in
    (rw room (ap (λ (z : _). z.number) r.ensures.0), rw (room, no))

pub returns : goal.returns
unfolding part_number part_answer_after
returns c =
    let at-if2 = c in
    let at-part-of = at-if2 in
    let entry = at-part-of in
    let r = at-part-of.part_of-part in
    let a = entry.args in
    let room = le-leb 8 (length a.answer.now) (omega arith) in
    let zero = rw r.ensures.0 at at-if2.if-part-ne0.false in
    let yes = eq-eqb _ 0 zero in
    (rw room (sym zero), rw (room, yes) (c.put_words.ensures ∙ rw r.ensures.0))
