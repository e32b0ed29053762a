-- The time flag is put, then the indices.
use Rattle.stereo_writer.proofs.WroteLaws.{wrote_then}
use Rattle.stereo_writer.specs.Spelling.{spell_row}
use Rattle.stereo_writer.proofs.rows.put_row.Goals as goal

pub returns : goal.returns
unfolding spell_row
returns c = wrote_then c.put.ensures c.put_indices.ensures
