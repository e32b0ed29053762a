-- The stereo reader over runs of payloads and reports, and what its functions answer, as turns of a run.
use Rattle.std.specs.Prelude.{eqb}
use Rattle.bits.specs.Reader.{pick}
use Rattle.bits.specs.Payload.{whole}
use Rattle.stereo.specs.State.{fresh, sound, lost}
use Rattle.stereo.specs.Payload.{payload}
use Rattle.stereo.specs.Carried.{carried}
use Rattle.stereo.specs.Restart.{restart}
use Rattle.stereo.specs.declared.State.{State}
use Rattle.stereo.specs.declared.Contents.{Contents}
use Rattle.stereo_reader.specs.declared.Reading.{Reading}
use Rattle.stereo_reader.specs.declared.Report.{Report}
use Rattle.runs.specs.Machine.{Machine, answered, refusal, reported, Turn}

abbrev pub stereo : Machine State Contents
stereo = record {
  fresh = fresh;
  sound = sound;
  in_step = λ st. st.instep;
  read = λ st bytes. whole (payload st) bytes;
  restart = restart;
  carried = carried;
  lost = lost;
}

-- the answer to a payload
abbrev pub turn_of : Reading → Turn State Contents
turn_of r =
    record { outcome = pick (eqb r.number 0) (answered r.contents r.bits) (refusal r.number r.place); state = r.state }

-- the answer to a report
abbrev pub report_of : Report → Turn State Contents
report_of r = record { outcome = pick (eqb r.number 0) reported (refusal r.number 0); state = r.state }
