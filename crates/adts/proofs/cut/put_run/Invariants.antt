-- After i turns the first i bits are put.
use mathlib.Core.Path.{◌≡◌}
use lib.ListN.{length}
use Rattle.bits.specs.Packed.{put_all}
use Rattle.adts.specs.Cut.{each_bit}
use Rattle.adts.proofs.cut.put_run.Given as goal

abbrev pub invariant-loop-i : goal.invariant-loop-i
invariant-loop-i l = (length l.out ≡ length l.initial.out) × (l.out ≡ put_all l.initial.out l.at (each_bit l.s l.from l.i))
