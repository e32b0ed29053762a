-- The fields are the six bytes from place 10 on.
use Rattle.c_layout.specs.ContentsBytes.{frame_at}
use Rattle.c_layout.proofs.answers.frame_at.Goals as goal

pub returns : goal.returns
unfolding frame_at
returns c = rw c.six_at-six.ensures
