-- Each field of a header that is there is put in its order.
use Rattle.stereo_writer.proofs.WroteLaws.{wrote_then}
use Rattle.stereo_writer.specs.Spelling.{spell_fields, spell_mode}
use Rattle.stereo_writer.proofs.fields.put_fields.Goals as goal

pub returns : goal.returns
unfolding spell_fields spell_mode
returns c =
    wrote_then (wrote_then (wrote_then (wrote_then c.put.ensures c.put_if.ensures) c.put-2.ensures) c.put_if-2.ensures) c.put-3.ensures
