-- After each turn the parts of so many payloads stand at the front.
-- Assumes nothing.
use Prim.Native.Nat.{◌*◌}
use Rattle.bits.proofs.OverLaws.{Put}
use Rattle.c_image.specs.ImageCalls.{parts_bytes}
use Rattle.c_image.proofs.put_parts.Given as goal

abbrev pub invariant-loop-k : goal.invariant-loop-k
invariant-loop-k l = Put l.initial.answer 0 (parts_bytes l.image l.k) (8 * l.k) l.answer
