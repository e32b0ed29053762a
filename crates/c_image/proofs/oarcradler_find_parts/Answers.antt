-- What the header is refused with for this answer; else the parts, for which it has room.
-- Assumes nothing.
use mathlib.Core.Path.{refl, sym, ap, ◌∙◌}
use borrow.Author.Tests.{eq-eqb, ne_eqb}
use Rattle.image.specs.declared.Header.{Header}
use Rattle.image.proofs.ImageLaws.{header-for}
use Rattle.c_image.specs.ImageCalls.{parts_answer_after}
use Rattle.c_image.proofs.oarcradler_find_parts.Goals as goal

pub returns-then-header-ne0 : goal.returns-then-header-ne0
unfolding parts_answer_after
returns-then-header-ne0 c =
    let judged = c.header_for-header.ensures in
    let no = ne_eqb _ 0 (rw judged at c.if-header-ne0.true) in
    (ap (λ (h : Header). h.number) judged, rw no)

pub put_parts-requires : goal.put_parts-requires
put_parts-requires c =
    let judged = c.header_for-header.ensures in
    let known = header-for 8 _ _ (rw judged at c.if-header-ne0.false) in
    rw (judged, known.0) (known.2, known.3, known.1, refl)

pub returns : goal.returns
unfolding parts_answer_after
returns c =
    let put = c in
    let judged = put.header_for-header.ensures in
    let zero = rw judged at put.if-header-ne0.false in
    let known = header-for 8 _ _ zero in
    (sym zero, rw (eq-eqb _ 0 zero) (put.put_parts.ensures ∙ rw (judged, known.0)))
