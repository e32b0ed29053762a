-- The rows are listed one by one, and `last` is the record that those read so far leave.
use Prim.Native.Nat.{◌<◌}
use mathlib.Core.Path.{◌≡◌, sym, ◌∙◌, ap}
use native.Mathlib.Omega.{arith}
use borrow.Author.Rules.{rules}
use lib.ListN.{take}
use Rattle.bits.specs.Reader.{refused}
use Rattle.bits.specs.InnerAnswers.{ended_answer}
use Rattle.bits.proofs.PaddedLaws.{taken-set}
use Rattle.stereo_indices.specs.Rows.{no_row, no_rows, record_after_rows, row, rows_of}
use Rattle.stereo_indices.specs.declared.Record.{Record}
use Rattle.stereo_indices.proofs.ListingLaws.{listing_start, listing-more, listing-refused, listing-done}
use Rattle.stereo_indices.proofs.RowLaws.{record_after_rows-more}
use Rattle.stereo_indices.proofs.rows.read_rows.Goals as goal

pub loop-k-init : goal.loop-k-init
unfolding no_rows
loop-k-init c = rw c.no_rows.ensures (record { listing = listing_start 4 no_row _ _ _ _ _; left = search rules })

pub returns-in_err-row : goal.returns-in_err-row
unfolding rows_of
returns-in_err-row c =
    let a = c.args in
    let l = c.loop-k in
    let i = c.in_err-row in
    let e : ended_answer c.from_residual.result l.rows ≡ refused i.field-0.0.number i.field-0.0.place = search rules in
    let q = ap (λ (h : Record). row a.kind a.mode h a.s.now.bytes.now l.place a.s.now.end) (sym l.invariant.left) ∙ sym i.ensures in
    e ∙ listing-refused _ _ _ _ _ _ _ c.loop-k-test.true l.invariant.listing q

pub loop-k-preserved : goal.loop-k-preserved
loop-k-preserved c =
    let a = c.args in
    let l = c.loop-k in
    let x = c.in_ok-row.row in
    let q = ap (λ (h : Record). row a.kind a.mode h a.s.now.bytes.now l.place a.s.now.end) (sym l.invariant.left)
    ∙ sym c.in_ok-row.ensures in
    let h : l.k < 4 = omega (arith, c.requires) in
    let t = taken-set 4 no_row l.k l.rows x h l.invariant.listing.filled in
    record {
      listing = listing-more _ _ _ _ _ _ _ c.requires c.loop-k-test.true l.invariant.listing q;
      left = sym (ap (record_after_rows a.rec a.mode) t ∙ record_after_rows-more a.rec a.mode (take l.k l.rows) x);
    }

pub returns : goal.returns
unfolding rows_of
returns c =
    let l = c.loop-k in
    listing-done _ _ _ _ _ _ _ c.requires (omega arith) c.loop-k-test.false l.invariant.listing
