-- The fields are the six bytes from place 4 on.
use Rattle.c_layout.specs.ContentsBytes.{header_at}
use Rattle.c_layout.proofs.answers.header_at.Goals as goal

pub returns : goal.returns
unfolding header_at
returns c = rw c.six_at-six.ensures
