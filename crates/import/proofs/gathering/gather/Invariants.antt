-- The window stays inside the buffer, and what was gathered fits an image; each frame that is taken makes one stream more.
-- Assumes nothing.
use Prim.Native.Nat.{◌-◌, ◌≤◌}
use mathlib.Core.Path.{◌≡◌}
use lib.ListN.{length}
use Rattle.import.specs.InnerGathering.{FitsImage}
use Rattle.import.proofs.gathering.gather.Given as goal

abbrev pub invariant-loop-g : goal.invariant-loop-g
invariant-loop-g g l =
    (length l.buffer ≡ length l.initial.buffer) × (length l.image ≡ length l.initial.image) × (length l.ends ≡ length l.initial.ends)
    × FitsImage l.g
    × (l.w.start ≤ l.w.end) × (l.w.end ≤ length l.buffer)

abbrev pub decreases-loop-g : goal.decreases-loop-g
decreases-loop-g g l = 512 - l.g.count
