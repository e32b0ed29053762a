-- Class, index and borders are put in the order of the spelling.
use Rattle.stereo_writer.proofs.WroteLaws.{wrote_then, wrote_as}
use Rattle.stereo_writer.specs.Spelling.{spell_frame}
use Rattle.stereo_writer.proofs.fields.put_frame.Goals as goal

pub returns : goal.returns
unfolding spell_frame
returns c = wrote_as (wrote_then (wrote_then c.put.ensures c.put-2.ensures) c.put_borders.ensures) (rw c.count_index.ensures)
