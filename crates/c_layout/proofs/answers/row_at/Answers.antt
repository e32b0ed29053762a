-- The flag is the byte at the place, the indices are the 34 after it.
use Rattle.c_layout.specs.ContentsBytes.{row_at}
use Rattle.c_layout.proofs.answers.row_at.Goals as goal

pub returns : goal.returns
unfolding row_at
returns c = rw (c.wide.ensures, c.indices_at.ensures)
