-- The row is the envelope's.
-- Assumes nothing.
use Rattle.print_rows.specs.InnerEnvelopeRows.{iid_row}
use Rattle.print_rows.proofs.envelopes.put_iid.Goals as goal

pub returns : goal.returns
unfolding iid_row
returns c = rw c.row_of.ensures at c.put_row.ensures
