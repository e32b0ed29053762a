-- The window stays inside the buffer, and what was gathered fits an image; each frame that is taken makes one stream more.
-- Assumes nothing.
use native.Mathlib.Omega.{arith}
use borrow.Author.Rules.{rules}
use Rattle.import.proofs.gathering.gather.Goals as goal

pub loop-g-init : goal.loop-g-init
loop-g-init g c = search rules

pub take_frame-requires : goal.take_frame-requires
take_frame-requires g c = search rules

pub loop-g-smaller : goal.loop-g-smaller
loop-g-smaller g c =
    let taken = c.in_ok-taken.ensures in
    omega (arith, taken.2, taken.0.0)

pub loop-g-preserved : goal.loop-g-preserved
loop-g-preserved g c = search rules
