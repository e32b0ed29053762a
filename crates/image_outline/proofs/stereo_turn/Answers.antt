-- The row and the state are those of the reading.
-- Assumes nothing.
use Rattle.image_outline.specs.Answers.{stereo_in}
use Rattle.image_outline.proofs.stereo_turn.Goals as goal

pub returns : goal.returns
unfolding stereo_in
returns c =
    let r = c.read-r.ensures in
    (rw (c.wide.ensures.0, r), rw r)
