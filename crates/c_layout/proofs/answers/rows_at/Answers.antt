-- A kind's rows in the four envelopes stand 140 bytes apart.
use Rattle.c_layout.specs.ContentsBytes.{rows_at}
use Rattle.c_layout.proofs.answers.rows_at.Goals as goal

pub returns : goal.returns
unfolding rows_at
returns c = rw (
  c.row_at-first.ensures,
  c.row_at-second.ensures,
  c.row_at-third.ensures,
  c.row_at-fourth.ensures,
)
