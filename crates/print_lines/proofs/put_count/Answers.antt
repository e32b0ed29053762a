-- The form is the definition's, and fits.
-- Assumes nothing.
use Rattle.print_lines.specs.InnerListing.{payload_count}
use Rattle.print_lines.proofs.put_count.Goals as goal

pub returns : goal.returns
unfolding payload_count
returns c = c.put_line.ensures
