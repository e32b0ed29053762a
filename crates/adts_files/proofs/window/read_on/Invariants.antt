-- What was there stays in front of what is read, whose end each turn moves on; and the turns end where a frame's most are there.
-- Assumes nothing.
use Prim.Native.Nat.{◌-◌, ◌≤◌}
use mathlib.Core.Path.{◌≡◌}
use lib.ListN.{length, take}
use Rattle.adts_files.proofs.window.read_on.Given as goal

abbrev pub invariant-loop-w : goal.invariant-loop-w
invariant-loop-w g l =
    (l.w.start ≡ l.initial.w.start) × (l.initial.w.end ≤ l.w.end) × (l.w.end ≤ length l.buffer)
    × (length l.buffer ≡ length l.initial.buffer)
    × (take l.initial.w.end l.buffer ≡ take l.initial.w.end l.initial.buffer)

abbrev pub decreases-loop-w : goal.decreases-loop-w
decreases-loop-w g l = length l.buffer - l.w.end
