-- The row is the envelope's.
-- Assumes nothing.
use Rattle.print_rows.specs.InnerEnvelopeRows.{opd_row}
use Rattle.print_rows.proofs.envelopes.put_opd.Goals as goal

pub returns : goal.returns
unfolding opd_row
returns c = rw c.phases_of-p.ensures at c.put_row.ensures
