-- The first stream starts at once, each other one a byte after the end of the one before it.
-- Assumes nothing.
use native.Mathlib.Omega.{arith}
use Rattle.import.proofs.HeadingLaws.{start_first, start-next}
use Rattle.import.proofs.heading.start_of.Goals as goal

pub returns-then-k-eq0 : goal.returns-then-k-eq0
returns-then-k-eq0 c = let a = c.args in (start_first a.ends.now a.k c.if-k-eq0.true, omega arith)

pub returns : goal.returns
returns c =
    let a = c.args in
    (rw c.wide.ensures.0 (start-next a.ends.now a.k c.if-k-eq0.false), omega (arith, c.wide.ensures.1))
