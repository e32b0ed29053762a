-- The form is the definition's, and fits.
-- Assumes nothing.
use Rattle.print_lines.specs.InnerFrames.{index_fault}
use Rattle.print_lines.proofs.faults.put_index_fault.Goals as goal

pub returns : goal.returns
unfolding index_fault
returns c = c.put_line.ensures
