-- Each flag, mode and record is read from its own place.
use Rattle.c_layout.specs.StateBytes.{state_at}
use Rattle.c_layout.proofs.states.state_at.Goals as goal

pub returns : goal.returns
unfolding state_at
returns c =
    let at-record-at2 = c in
    let at-record-at = at-record-at2 in
    let at-wide2 = at-record-at in
    let at_wide = at-wide2 in
    rw (
      at_wide.wide.ensures,
      at-wide2.wide-2.ensures,
      at-record-at.record_at-iid.ensures,
      at-record-at2.record_at-icc.ensures,
      c.record_at-ipd.ensures,
      c.record_at-opd.ensures,
    )
