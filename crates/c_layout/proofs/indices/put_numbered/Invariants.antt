-- The number's byte is put first; after each turn so many indices stand after it, and at the end both make one run of 35.
-- Assumes nothing.
use Prim.Native.Nat.{◌+◌}
use mathlib.Core.Path.{◌≡◌}
use mathlib.Core.List.{map}
use lib.Seq.{paste}
use mir.Syntax.{w8}
use mir.Val.{of_z}
use Rattle.c_layout.proofs.indices.put_numbered.Given as goal

abbrev pub invariant-loop-i : goal.invariant-loop-i
invariant-loop-i l = l.out ≡ paste l.initial.out (l.at + 1) (map (of_z w8) l.x-items) l.i
