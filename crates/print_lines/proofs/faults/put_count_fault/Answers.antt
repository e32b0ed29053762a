-- The form is the definition's, and fits.
-- Assumes nothing.
use Rattle.print_lines.specs.InnerFrames.{count_fault}
use Rattle.print_lines.proofs.faults.put_count_fault.Goals as goal

pub returns : goal.returns
unfolding count_fault
returns c = c.put_line.ensures
