-- The IPD row and then the OPD row, each after its record.
use Rattle.stereo_writer.proofs.WroteLaws.{wrote_then}
use Rattle.stereo_writer.proofs.extensions.put_phases.Goals as goal

pub returns : goal.returns
returns c = wrote_then c.put_row.ensures c.put_row-2.ensures
