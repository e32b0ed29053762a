-- The row is the envelope's.
-- Assumes nothing.
use Rattle.print_rows.specs.InnerEnvelopeRows.{icc_row}
use Rattle.print_rows.proofs.envelopes.put_icc.Goals as goal

pub returns : goal.returns
unfolding icc_row
returns c = rw c.row_of.ensures at c.put_row.ensures
