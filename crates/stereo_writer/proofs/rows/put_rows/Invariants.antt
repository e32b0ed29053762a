-- After each turn the rows so far stand one after another, each after the record before it.
use Rattle.stereo_writer.specs.Spelling.{spell_next}
use Rattle.stereo_writer.specs.InnerWrote.{Wrote}
use Rattle.stereo_indices.specs.Rows.{record_after_rows}
use Rattle.bits.specs.Spelled.{spell_each}
use lib.ListN.{take}
use mathlib.Core.List.{[]}
use mathlib.Core.Path.{◌≡◌}
use Prim.Native.Nat.{◌*◌}
use Rattle.stereo_writer.proofs.rows.put_rows.Given as goal

abbrev pub invariant-loop-row : goal.invariant-loop-row
invariant-loop-row l =
    (l.last ≡ record_after_rows l.initial.last l.mode (take l.row-index l.sent))
    × Wrote (681 * l.row-index) l.initial.w (spell_each (spell_next l.kind l.mode l.initial.last) [] (take l.row-index l.sent)) l.w
