-- After each turn the offsets of so many streams stand at the place.
-- Assumes nothing.
use Prim.Native.Nat.{◌*◌}
use Rattle.bits.proofs.OverLaws.{Put}
use Rattle.import.specs.InnerHeading.{offsets_of}
use Rattle.import.proofs.heading.put_offsets.Given as goal

abbrev pub invariant-loop-k : goal.invariant-loop-k
invariant-loop-k l = Put l.initial.image l.at (offsets_of l.base l.ends l.k) (4 * l.k) l.image
