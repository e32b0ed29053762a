-- What the header is refused with for these rows; else the rows of each payload, for which they have room.
-- Assumes nothing.
use mathlib.Core.Path.{◌∙◌}
use borrow.Author.Tests.{eq-eqb, ne_eqb}
use Rattle.image.proofs.ImageLaws.{header-for}
use Rattle.image_outline.specs.Outline.{rows_after}
use Rattle.image_outline.proofs.OutlineLaws.{sound-header}
use Rattle.image_outline.proofs.read_image.Goals as goal

pub returns-then-header-ne0 : goal.returns-then-header-ne0
unfolding rows_after
returns-then-header-ne0 c =
    let judged = c.header_for-header.ensures in
    (judged, rw (ne_eqb _ 0 (rw judged at c.if-header-ne0.true)))

pub fill_rows-requires : goal.fill_rows-requires
fill_rows-requires c =
    let judged = c.header_for-header.ensures in
    let known = header-for 5 _ _ (rw judged at c.if-header-ne0.false) in
    rw (judged, known.0) (known.2, known.3, sound-header _ known.1)

pub returns : goal.returns
unfolding rows_after
returns c =
    let filled = c in
    let judged = filled.header_for-header.ensures in
    let zero = rw judged at filled.if-header-ne0.false in
    let known = header-for 5 _ _ zero in
    (judged, rw (eq-eqb _ 0 zero) (filled.fill_rows.ensures ∙ rw (judged, known.0)))
