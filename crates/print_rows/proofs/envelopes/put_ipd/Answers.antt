-- The row is the envelope's.
-- Assumes nothing.
use Rattle.print_rows.specs.InnerEnvelopeRows.{ipd_row}
use Rattle.print_rows.proofs.envelopes.put_ipd.Goals as goal

pub returns : goal.returns
unfolding ipd_row
returns c = rw c.phases_of-p.ensures at c.put_row.ensures
