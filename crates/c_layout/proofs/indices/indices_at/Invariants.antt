-- So many bytes are turned into indices after each turn.
-- Assumes nothing.
use mathlib.Core.Path.{◌≡◌}
use mathlib.Core.List.{map}
use lib.ListN.{length, take, drop}
use mir.Syntax.{w8}
use mir.Val.{to_z}
use Rattle.c_layout.proofs.indices.indices_at.Given as goal

abbrev pub invariant-loop-i : goal.invariant-loop-i
invariant-loop-i l = (length l.out ≡ 34) × (take l.i l.out ≡ map (to_z w8) (take l.i (drop l.at l.s)))
