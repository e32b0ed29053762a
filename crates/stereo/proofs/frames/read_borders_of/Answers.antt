-- The borders are listed one by one.
use mathlib.Core.Path.{◌≡◌, sym, ◌∙◌}
use native.Mathlib.Omega.{arith}
use borrow.Author.Rules.{rules}
use Rattle.bits.specs.Reader.{refused}
use Rattle.bits.specs.InnerAnswers.{answer_of}
use Rattle.stereo.specs.Frame.{no_borders, borders_of}
use Rattle.stereo_indices.proofs.ListingLaws.{listing_start, listing-more, listing-refused, listing-done}
use Rattle.stereo.proofs.frames.read_borders_of.Goals as goal

pub loop-k-init : goal.loop-k-init
unfolding no_borders
loop-k-init c = rw c.no_borders-borders.ensures (listing_start 4 0 _ _ _ _ _)

pub returns-in_err-border : goal.returns-in_err-border
unfolding borders_of
returns-in_err-border c =
    let i = c.in_err-border in
    let e : answer_of c.from_residual.result ≡ refused i.field-0.0.number i.field-0.0.place = search rules in
    e ∙ listing-refused _ _ _ _ _ _ _ c.loop-k-test.true c.loop-k.invariant (sym i.ensures)

pub loop-k-preserved : goal.loop-k-preserved
loop-k-preserved c = listing-more _ _ _ _ _ _ _ c.requires c.loop-k-test.true c.loop-k.invariant (sym c.in_ok-border.ensures)

pub returns : goal.returns
unfolding borders_of
returns c = listing-done _ _ _ _ _ _ _ c.requires (omega arith) c.loop-k-test.false c.loop-k.invariant
