-- The indices are listed one by one, and `last` is the one before.
use Prim.Native.Nat.{◌<◌, ◌≤◌}
use mathlib.Core.Path.{◌≡◌, sym, ◌∙◌}
use native.Mathlib.Omega.{arith}
use borrow.Author.Rules.{rules}
use lib.ListN.{get_or}
use lib.IntN.{pos, nat_abs}
use mir.Syntax.{w8}
use mir.Val.{SFits}
use Rattle.bits.specs.Reader.{refused}
use Rattle.bits.specs.InnerAnswers.{answer_of}
use Rattle.bits.proofs.Signed.{thru}
use Rattle.bits.proofs.PaddedLaws.{last_set}
use Rattle.stereo_indices.specs.Kind.{bands}
use Rattle.stereo_indices.specs.Record.{zeros}
use Rattle.stereo_indices.specs.Indices.{indices}
use Rattle.stereo_indices.proofs.KindLaws.{bands-le, in_range_abs}
use Rattle.stereo_indices.proofs.IndexLaws.{index-is, index-ranged}
use Rattle.stereo_indices.proofs.ListingLaws.{listing_start, listing-more, listing-refused, listing-done}
use Rattle.stereo_indices.proofs.indices.read_indices.Goals as goal

pub loop-i-init : goal.loop-i-init
unfolding zeros
loop-i-init c = rw c.zeros-indices.ensures (record {
  listing = listing_start 34 (pos 0) _ _ _ _ _;
  small = omega arith;
  before = search rules;
})

pub returns-in_err-index : goal.returns-in_err-index
unfolding indices
returns-in_err-index c =
    let a = c.args in
    let l = c.loop-i in
    let i = c.in_err-index in
    let e : answer_of c.from_residual.result ≡ refused i.field-0.0.number i.field-0.0.place = search rules in
    let f : SFits w8 (get_or a.before l.i (pos 0)) = search rules in
    let n : l.i < bands a.kind a.mode = omega (arith, c.bands-count.ensures.0) in
    let h : l.i ≤ 34 = omega (arith, bands-le a.kind a.mode) in
    let q = index-is a.kind a.mode a.time l.i a.before l.indices _ _ f l.invariant.small h l.invariant.listing.filled l.invariant.before
    c.chosen-from.ensures _ _ _ ∙ sym i.ensures in
    e ∙ listing-refused _ _ _ _ _ _ _ n l.invariant.listing q

pub loop-i-preserved : goal.loop-i-preserved
loop-i-preserved c =
    let a = c.args in
    let l = c.loop-i in
    let x = c.in_ok-index.index in
    let f : SFits w8 (get_or a.before l.i (pos 0)) = search rules in
    let n : l.i < bands a.kind a.mode = omega (arith, c.bands-count.ensures.0) in
    let h : l.i < 34 = omega (arith, bands-le a.kind a.mode) in
    let q = index-is a.kind a.mode a.time l.i a.before l.indices _ _ f l.invariant.small (omega arith) l.invariant.listing.filled
    l.invariant.before c.chosen-from.ensures _ _ _ ∙ sym c.in_ok-index.ensures in
    let small : nat_abs x ≤ 15 = in_range_abs a.kind a.mode x (index-ranged _ _ _ _ _ _ _ x _ (sym c.in_ok-index.ensures)) in
    rw (thru w8 15 small (omega arith)) (record {
      listing = listing-more _ _ _ _ _ _ _ (bands-le a.kind a.mode) n l.invariant.listing q;
      small = small;
      before = sym (last_set 34 (pos 0) l.i l.indices x (pos 0) h l.invariant.listing.filled);
    })

pub returns : goal.returns
unfolding indices
returns c =
    let a = c.args in
    let l = c.loop-i in
    let h : l.i ≤ bands a.kind a.mode = omega (arith, c.bands-count.ensures.0) in
    let g : bands a.kind a.mode ≤ l.i = omega (arith, c.bands-count.ensures.0) in
    listing-done _ _ _ _ _ _ _ (bands-le a.kind a.mode) h g l.invariant.listing
