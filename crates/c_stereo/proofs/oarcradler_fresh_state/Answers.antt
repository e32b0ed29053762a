-- 2 where the state does not fit; else what `put_state` puts.
-- Assumes nothing.
use mathlib.Core.Path.{◌∙◌}
use native.Mathlib.Omega.{arith}
use lib.ListN.{length}
use borrow.Author.Tests.{le-leb, lt-leb}
use Rattle.c_stereo.proofs.oarcradler_fresh_state.Goals as goal

pub returns-then-state-lt146 : goal.returns-then-state-lt146
returns-then-state-lt146 c =
    let no = lt-leb 146 _ c.if-state-lt146.true in
    (rw no, rw no)

pub returns : goal.returns
returns c =
    let at-fresh = c in
    let entry = at-fresh in
    let s = entry.args.state.now in
    let room = le-leb 146 (length s) (omega arith) in
    (rw room, rw room (c.put_state.ensures ∙ rw at-fresh.fresh.ensures))
