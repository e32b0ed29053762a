-- The form is the definition's, and fits.
-- Assumes nothing.
use Rattle.print_lines.specs.InnerFrames.{size_fault}
use Rattle.print_lines.proofs.faults.put_size_fault.Goals as goal

pub returns : goal.returns
unfolding size_fault
returns c = c.put_line.ensures
