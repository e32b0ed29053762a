-- Header, frame, rows and extension are put in the order of the spelling.
use Rattle.stereo_writer.proofs.WroteLaws.{wrote_then, wrote_as}
use Rattle.stereo_writer.specs.Spelling.{spelling_in, spelling}
use Rattle.stereo_writer.proofs.payloads.put_contents.Goals as goal

pub returns : goal.returns
unfolding spelling spelling_in
returns c =
    let levels = wrote_then (wrote_then c.put_header.ensures c.put_frame.ensures) c.put_rows.ensures in
    wrote_as (wrote_then (wrote_then levels c.put_rows-2.ensures) c.put_extension.ensures)
    (rw (c.setup_after-setup.ensures, c.phase_records-records.ensures))
