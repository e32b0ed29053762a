-- 2 where the answer does not fit, then what the header is refused with; else its two words.
-- Assumes nothing.
use mathlib.Core.Path.{sym, ap, ◌∙◌}
use native.Mathlib.Omega.{arith}
use lib.ListN.{length}
use borrow.Author.Tests.{le-leb, lt-leb, eq-eqb, ne_eqb}
use Rattle.c_image.specs.ImageCalls.{image_number, image_answer_after}
use Rattle.c_image.proofs.oarcradler_read_header.Goals as goal

pub returns-then-answer-lt8 : goal.returns-then-answer-lt8
unfolding image_number image_answer_after
returns-then-answer-lt8 c =
    let no = lt-leb 8 _ c.if-answer-lt8.true in
    (rw no, rw no)

pub returns-then-header-ne0 : goal.returns-then-header-ne0
unfolding image_number image_answer_after
returns-then-header-ne0 c =
    let at-read-header = c in
    let entry = at-read-header in
    let r = at-read-header.read_header-header in
    let a = entry.args in
    let room = le-leb 8 (length a.answer.now) (omega arith) in
    let no = ne_eqb _ 0 (rw r.ensures at c.if-header-ne0.true) in
    (rw room (ap (λ (z : _). z.number) r.ensures), rw (room, no))

pub returns : goal.returns
unfolding image_number image_answer_after
returns c =
    let at-if2 = c in
    let at-read-header = at-if2 in
    let entry = at-read-header in
    let r = at-read-header.read_header-header in
    let a = entry.args in
    let room = le-leb 8 (length a.answer.now) (omega arith) in
    let zero = rw r.ensures at at-if2.if-header-ne0.false in
    let yes = eq-eqb _ 0 zero in
    (rw room (sym zero), rw (room, yes) (c.put_words.ensures ∙ rw r.ensures))
