-- An outline that is answered is that of the image's header and has at most 1,024 payloads, so its rows are all there.
-- Assumes nothing.
use Prim.Native.Nat.{◌≤◌}
use mathlib.Core.Path.{sym, ◌∙◌}
use lib.ListN.{length}
use Rattle.image.proofs.ImageLaws.{header-for}
use Rattle.image_outline.proofs.OutlineLaws.{sound-header}
use borrow.Author.Rules.{rules}
use Rattle.print.proofs.print_image.Goals as goal

pub print_payloads-requires : goal.print_payloads-requires
print_payloads-requires g c =
    let a = c.args in
    let outline = c.read_image-header.ensures.0 in
    let long : 5120 ≤ length c.read_image-header.new.rows = search rules in
    let zero = rw outline at c.if-header-ne0.false in
    let known = header-for 5 a.image.now 5120 zero in
    let header = outline ∙ known.0 in (
      rw header known.2,
      long,
      sym header ∙ sound-header c.read_image-header.result c.if-header-ne0.false,
    )
