-- What is left to be put makes the whole: in each turn the bits that stand in one byte go there, and the others follow.
use Prim.Native.Nat.{◌+◌, ◌≤◌}
use mathlib.Core.Path.{◌≡◌}
use lib.ListN.{length}
use Rattle.bits.specs.Packed.{put}
use Rattle.bits.proofs.write.put_bits.Given as goal

abbrev pub invariant-loop-left : goal.invariant-loop-left
invariant-loop-left l =
    (l.place + l.left ≡ l.at + l.n) × (l.left ≤ l.n) × (length l.out ≡ length l.initial.out)
    × (put l.out l.place l.v l.left ≡ put l.initial.out l.at l.v l.n)

abbrev pub decreases-loop-left : goal.decreases-loop-left
decreases-loop-left l = l.left
