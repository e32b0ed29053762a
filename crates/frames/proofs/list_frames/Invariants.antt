-- The window stays inside the buffer, and no more frames than bytes are counted; each frame that is followed by another has a byte at
-- least.
-- Assumes nothing.
use Prim.Native.Nat.{◌-◌, ◌≤◌}
use mathlib.Core.Path.{◌≡◌}
use lib.ListN.{length}
use Rattle.frames.proofs.list_frames.Given as goal

abbrev pub invariant-loop-w : goal.invariant-loop-w
invariant-loop-w g l =
    (length l.buffer ≡ length l.initial.buffer) × (l.w.start ≤ l.w.end) × (l.w.end ≤ length l.buffer) × (l.k ≤ l.byte)
    × (l.byte ≤ 18446744073709551359)

abbrev pub decreases-loop-w : goal.decreases-loop-w
decreases-loop-w g l = 18446744073709551359 - l.byte
