-- The form is the definition's, and fits.
-- Assumes nothing.
use Rattle.print_lines.specs.InnerListing.{refused_image}
use Rattle.print_lines.proofs.put_refused_image.Goals as goal

pub returns : goal.returns
unfolding refused_image
returns c = c.put_line.ensures
