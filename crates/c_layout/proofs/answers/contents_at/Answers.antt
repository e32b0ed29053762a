-- Each part is read from its own place.
use Rattle.c_layout.specs.ContentsBytes.{contents_at}
use Rattle.c_layout.proofs.answers.contents_at.Goals as goal

pub returns : goal.returns
unfolding contents_at
returns c = rw (
  c.header_at-header.ensures,
  c.frame_at-frame.ensures,
  c.rows_at-iid.ensures,
  c.rows_at-icc.ensures,
  c.extension_at-extension.ensures,
)
