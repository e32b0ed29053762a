-- The loop stops at the first offset that falls; if it does not stop, none does.
use Prim.Native.Nat.{◌-◌}
use mathlib.Core.Path.{◌≡◌}
use Rattle.image.specs.Image.{rising}
use Rattle.image.proofs.is_rising.Given as goal

abbrev pub invariant-loop-k : goal.invariant-loop-k
invariant-loop-k l = rising l.image 0 l.n ≡ rising l.image l.k (l.n - l.k)
