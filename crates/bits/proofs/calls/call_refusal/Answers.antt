-- Each return shows the tests up to the one that refused.
-- Assumes nothing.
use native.Mathlib.Omega.{arith}
use borrow.Author.Tests.{le-leb, lt-leb}
use Rattle.bits.proofs.calls.call_refusal.Goals as goal

pub returns-then-end-start : goal.returns-then-end-start
returns-then-end-start c = rw (lt-leb _ _ c.if-end-start.true)

pub returns-then-size-end : goal.returns-then-size-end
returns-then-size-end c =
    let a = c.args in
    rw (le-leb a.start a.end (omega arith), lt-leb _ _ c.if-size-end.true)

pub returns-then-room-need : goal.returns-then-room-need
returns-then-room-need c =
    let a = c.args in
    rw (le-leb a.start a.end (omega arith), le-leb a.end a.size (omega arith), lt-leb _ _ c.if-room-need.true)

pub returns : goal.returns
returns c =
    let a = c.args in
    rw (le-leb a.start a.end (omega arith), le-leb a.end a.size (omega arith), le-leb a.need a.room (omega arith))
