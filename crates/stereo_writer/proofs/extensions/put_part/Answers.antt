-- v0 and the fill bits, at most seven of them, are put one after the other.
use Rattle.stereo_writer.proofs.WroteLaws.{wrote_then, wrote_as, wrote-most}
use Rattle.stereo_writer.specs.Spelling.{spell_part}
use native.Mathlib.Omega.{arith}
use Rattle.stereo_writer.proofs.extensions.put_part.Goals as goal

pub returns : goal.returns
unfolding spell_part
returns c =
    let e = c.min.ensures in
    wrote_as (wrote_then c.put_body.ensures (wrote-most {b = 7} c.put.ensures (omega arith))) (rw e)
