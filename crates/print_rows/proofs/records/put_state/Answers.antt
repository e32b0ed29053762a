-- Each mark is the definition's, and the form fits.
-- Assumes nothing.
use Rattle.print_rows.specs.InnerStateRows.{state_row}
use Rattle.print_rows.proofs.records.put_state.Goals as goal

pub returns : goal.returns
unfolding state_row
returns c =
    rw (
      c.mode-iid.ensures,
      c.mode-icc.ensures,
      c.flag-level.ensures,
      c.flag-coherence.ensures,
      c.flag-ext.ensures,
      c.flag-step.ensures,
    )
    at c.put_line.ensures
