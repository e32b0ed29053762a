-- The form is the definition's, and fits.
-- Assumes nothing.
use Rattle.print_lines.specs.InnerFrames.{refused_fault}
use Rattle.print_lines.proofs.faults.put_refused_fault.Goals as goal

pub returns : goal.returns
unfolding refused_fault
returns c = c.put_line.ensures
