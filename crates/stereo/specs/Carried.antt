-- The state after a payload that was read.
use Rattle.std.specs.Prelude.{ℕ, ◌-◌, List, Bool, true, eqb, ℤ, get_or}
use Rattle.bits.specs.Reader.{pick}
use Rattle.stereo_indices.specs.Record.{record_of, none}
use Rattle.stereo_indices.specs.Rows.{no_row}
use Rattle.stereo_indices.specs.declared.Record.{Record}
use Rattle.stereo_indices.specs.declared.Row.{Row}
use Rattle.stereo.specs.Header.{setup_after}
use Rattle.stereo.specs.Extension.{no_phases}
use Rattle.stereo.specs.declared.Setup.{Setup}
use Rattle.stereo.specs.declared.State.{State}
use Rattle.stereo.specs.declared.Phases.{Phases}
use Rattle.stereo.specs.declared.Body.{Body}
use Rattle.stereo.specs.declared.PhaseRecords.{PhaseRecords}
use Rattle.stereo.specs.declared.Contents.{Contents}

-- a kind's record: not enabled, none; with no envelopes, it stays; else the last envelope's indices
unfoldable pub record_after : Bool → ℕ → Record → ℕ → List ℤ → Record
record_after on mode h n xs = pick on (pick (eqb n 0) h (record_of mode xs)) none

-- the indices of the last of n envelopes
abbrev pub last_row : ℕ → List Row → List ℤ
last_row n rs = (get_or rs (n - 1) no_row).indices

-- the phases of the last of n envelopes
abbrev pub last_phases : ℕ → List Phases → Phases
last_phases n ps = get_or ps (n - 1) no_phases

-- the phase records: without phase data both are none
unfoldable pub phase_records : Setup → State → ℕ → Body → PhaseRecords
phase_records f st n b = record {
  ipd = record_after (eqb b.phase 1) f.iidmode st.ipd n (last_phases n b.phases).ipd.indices;
  opd = record_after (eqb b.phase 1) f.iidmode st.opd n (last_phases n b.phases).opd.indices;
}

-- the state after contents, with what is in force after their header
unfoldable pub carried_in : State → Contents → Setup → State
carried_in st c f = record {
  setup = f;
  iid = record_after f.iid f.iidmode st.iid c.frame.envelopes (last_row c.frame.envelopes c.iid);
  icc = record_after f.icc f.iccmode st.icc c.frame.envelopes (last_row c.frame.envelopes c.icc);
  ipd = (phase_records f st c.frame.envelopes c.extension.part.body).ipd;
  opd = (phase_records f st c.frame.envelopes c.extension.part.body).opd;
  instep = true;
}

unfoldable pub carried : State → Contents → State
carried st c = carried_in st c (setup_after st.setup c.header)
