-- The phases of the four envelopes stand 140 bytes apart.
use Rattle.c_layout.specs.ContentsBytes.{all_phases_at}
use Rattle.c_layout.proofs.answers.all_phases_at.Goals as goal

pub returns : goal.returns
unfolding all_phases_at
returns c = rw (
  c.phases_at-first.ensures,
  c.phases_at-second.ensures,
  c.phases_at-third.ensures,
  c.phases_at-fourth.ensures,
)
