-- Each mark is the definition's, and the form fits.
-- Assumes nothing.
use Rattle.print_rows.specs.InnerEnvelopeRows.{envelope_row}
use Rattle.print_rows.proofs.envelopes.put_envelope.Goals as goal

pub returns : goal.returns
unfolding envelope_row
returns c =
    rw (
      c.direction-iid.ensures,
      c.direction-icc.ensures,
      c.direction-ipd.ensures,
      c.direction-opd.ensures,
      c.row_of-iid.ensures,
      c.row_of-icc.ensures,
      c.phases_of-p.ensures,
    )
    at c.put_line.ensures
