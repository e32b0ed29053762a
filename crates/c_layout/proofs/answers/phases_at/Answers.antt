-- The two rows stand one after the other.
use Rattle.c_layout.specs.ContentsBytes.{phases_at}
use Rattle.c_layout.proofs.answers.phases_at.Goals as goal

pub returns : goal.returns
unfolding phases_at
returns c = rw (c.row_at-ipd.ensures, c.row_at-opd.ensures)
