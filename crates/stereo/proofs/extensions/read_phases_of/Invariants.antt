-- The phases are listed one by one, and `last` has the records that those read so far leave.
use Prim.Native.Nat.{ℕ}
use mathlib.Core.Path.{◌≡◌}
use mathlib.Core.List.{List}
use lib.ListN.{take}
use Rattle.stereo_indices.proofs.ListingLaws.{Listing}
use Rattle.stereo_indices.specs.Rows.{record_after_rows}
use Rattle.stereo.specs.Extension.{no_phases, ipds, opds, phases_next}
use Rattle.stereo.specs.declared.Phases.{Phases}
use Rattle.stereo.specs.declared.PhaseRecords.{PhaseRecords}
use Rattle.stereo.proofs.extensions.read_phases_of.Given as goal

-- the records after some envelopes
abbrev pub after : PhaseRecords → ℕ → List Phases → PhaseRecords
after h mode ps = record { ipd = record_after_rows h.ipd mode (ipds ps); opd = record_after_rows h.opd mode (opds ps) }

abbrev pub invariant-loop-k : goal.invariant-loop-k
invariant-loop-k l = record {
  listing : Listing 4 no_phases l.n (phases_next l.mode l.initial.last.ipd l.initial.last.opd) l.s.bytes.now l.at l.s.end
      l.phases l.place l.k;
  left : l.last ≡ after l.initial.last l.mode (take l.k l.phases);
}
