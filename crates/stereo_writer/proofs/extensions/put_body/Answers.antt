-- The id, the flag, the phases and the reserved bit are put in the order of the spelling.
use Rattle.stereo_writer.proofs.WroteLaws.{wrote_then}
use Rattle.stereo_writer.specs.Spelling.{spell_body}
use Rattle.stereo_writer.proofs.extensions.put_body.Goals as goal

pub returns : goal.returns
unfolding spell_body
returns c = wrote_then (wrote_then (wrote_then c.put.ensures c.put-2.ensures) c.put_all_phases.ensures) c.put-3.ensures
