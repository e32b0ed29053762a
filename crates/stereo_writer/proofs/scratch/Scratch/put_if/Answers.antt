-- Nothing is put where it is not on.
use Rattle.stereo_writer.proofs.WroteLaws.{wrote_nothing}
use Rattle.stereo_writer.proofs.scratch.Scratch.put_if.Goals as goal

pub returns-then-not-on : goal.returns-then-not-on
returns-then-not-on c = wrote_nothing (rw c.if-not-on.true)
