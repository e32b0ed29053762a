-- After each turn the rows of so many payloads stand at the front, and the state is the one before the next payload.
-- Assumes nothing.
use Prim.Native.Nat.{◌*◌}
use mathlib.Core.Path.{◌≡◌}
use Rattle.bits.proofs.OverLaws.{Put}
use Rattle.image_outline.specs.Answers.{state_before}
use Rattle.image_outline.specs.Outline.{rows_of}
use Rattle.image_outline.proofs.fill_rows.Given as goal

abbrev pub invariant-loop-k : goal.invariant-loop-k
invariant-loop-k l =
    (l.state ≡ state_before l.image l.k) × Put l.initial.rows 0 (rows_of l.image l.k) (5 * l.k) l.rows
