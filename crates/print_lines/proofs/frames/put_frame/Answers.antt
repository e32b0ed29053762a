-- The form is the definition's, and fits.
-- Assumes nothing.
use Rattle.print_lines.specs.InnerFrames.{frame_line}
use Rattle.print_lines.proofs.frames.put_frame.Goals as goal

pub returns : goal.returns
unfolding frame_line
returns c = c.put_line.ensures
