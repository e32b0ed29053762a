-- A payload's contents, as they are read from a state: 12 and 35 apart.
use Rattle.bits.specs.Reader.{Reader, give, ◌>>=◌}
use Rattle.stereo_indices.specs.Rows.{no_rows, rows}
use Rattle.stereo_indices.specs.declared.Kind.TheVariants.{Iid, Icc}
use Rattle.stereo.specs.Header.{no_header, header, setup_after}
use Rattle.stereo.specs.Frame.{no_frame, frame}
use Rattle.stereo.specs.Extension.{no_extension, extension}
use Rattle.stereo.specs.declared.Setup.{Setup}
use Rattle.stereo.specs.declared.State.{State}
use Rattle.stereo.specs.declared.Header.{Header}
use Rattle.stereo.specs.declared.Frame.{Frame}
use Rattle.stereo.specs.declared.Contents.{Contents}

-- nothing was read
unfoldable pub no_contents : Contents
no_contents = record { header = no_header; frame = no_frame; iid = no_rows; icc = no_rows; extension = no_extension }

-- what the envelopes of a frame hold, with what is in force after the header
unfoldable pub envelopes : State → Header → Setup → Frame → Reader Contents
envelopes st h f fr = do
  iid ← rows Iid f.iid f.iidmode st.iid fr.envelopes
  icc ← rows Icc f.icc f.iccmode st.icc fr.envelopes
  x ← extension f.ext f.iidmode st.ipd st.opd fr.envelopes
  give (record { header = h; frame = fr; iid = iid; icc = icc; extension = x })

unfoldable pub payload : State → Reader Contents
payload st = do
  h ← header
  fr ← frame
  envelopes st h (setup_after st.setup h) fr
