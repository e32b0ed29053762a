-- The phases are listed one by one, and `last` has the records that those read so far leave.
use Prim.Native.Nat.{ℕ, ◌<◌}
use mathlib.Core.Path.{◌≡◌, sym, ◌∙◌, ap}
use mathlib.Core.List.{List, [], ◌∷◌, ◌++◌}
use native.Mathlib.Omega.{arith}
use borrow.Author.Rules.{rules}
use lib.ListN.{take}
use Rattle.bits.specs.Reader.{refused}
use Rattle.bits.specs.InnerAnswers.{answer_of}
use Rattle.bits.proofs.PaddedLaws.{taken-set}
use Rattle.stereo_indices.specs.Record.{record_of}
use Rattle.stereo_indices.proofs.ListingLaws.{listing_start, listing-more, listing-refused, listing-done}
use Rattle.stereo.specs.Extension.{no_phases, phases_in, phases_of}
use Rattle.stereo.specs.declared.Phases.{Phases}
use Rattle.stereo.specs.declared.PhaseRecords.{PhaseRecords}
use Rattle.stereo.proofs.ExtensionLaws.{after-ipds, after-opds}
use Rattle.stereo.proofs.extensions.read_phases_of.Invariants.{after}
use Rattle.stereo.proofs.extensions.read_phases_of.Goals as goal

after_more : (h : PhaseRecords) (mode : ℕ) (ps : List Phases) (p : Phases)
    → after h mode (ps ++ p ∷ []) ≡ record { ipd = record_of mode p.ipd.indices; opd = record_of mode p.opd.indices }
after_more h mode ps p = rw (after-ipds h.ipd mode ps p, after-opds h.opd mode ps p)

pub loop-k-init : goal.loop-k-init
loop-k-init c = rw c.none_of_four-phases.ensures (record { listing = listing_start 4 no_phases _ _ _ _ _; left = search rules })

pub returns-in_err-here : goal.returns-in_err-here
unfolding phases_of
returns-in_err-here c =
    let a = c.args in
    let l = c.loop-k in
    let i = c.in_err-here in
    let e : answer_of c.from_residual.result ≡ refused i.field-0.0.number i.field-0.0.place = search rules in
    let q = ap (λ (h : PhaseRecords). phases_in a.mode h.ipd h.opd a.s.now.bytes.now l.place a.s.now.end) (sym l.invariant.left)
    ∙ sym i.ensures in
    e ∙ listing-refused _ _ _ _ _ _ _ c.loop-k-test.true l.invariant.listing q

pub loop-k-preserved : goal.loop-k-preserved
loop-k-preserved c =
    let a = c.args in
    let l = c.loop-k in
    let x = c.in_ok-here.here in
    let q = ap (λ (h : PhaseRecords). phases_in a.mode h.ipd h.opd a.s.now.bytes.now l.place a.s.now.end) (sym l.invariant.left)
    ∙ sym c.in_ok-here.ensures in
    let h : l.k < 4 = omega (arith, c.requires) in
    let t = taken-set 4 no_phases l.k l.phases x h l.invariant.listing.filled in
    record {
      listing = listing-more _ _ _ _ _ _ _ c.requires c.loop-k-test.true l.invariant.listing q;
      left = c.left_by-last.ensures ∙ sym (ap (after a.records a.mode) t ∙ after_more a.records a.mode (take l.k l.phases) x);
    }

pub returns : goal.returns
unfolding phases_of
returns c = listing-done _ _ _ _ _ _ _ c.requires (omega arith) c.loop-k-test.false c.loop-k.invariant.listing
