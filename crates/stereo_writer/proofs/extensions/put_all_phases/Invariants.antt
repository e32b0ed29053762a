-- After each turn the phases so far stand one after another, each after the records before it.
use Rattle.stereo_writer.specs.Spelling.{spell_phases}
use Rattle.stereo_writer.specs.InnerWrote.{Wrote}
use Rattle.stereo.specs.Extension.{ipds, opds}
use Rattle.stereo_indices.specs.Rows.{record_after_rows}
use Rattle.bits.specs.Spelled.{spell_each}
use lib.ListN.{take}
use mathlib.Core.List.{[]}
use mathlib.Core.Path.{◌≡◌}
use Prim.Native.Nat.{◌*◌}
use Rattle.stereo_writer.proofs.extensions.put_all_phases.Given as goal

abbrev pub invariant-loop-p : goal.invariant-loop-p
invariant-loop-p l =
    (l.last.ipd ≡ record_after_rows l.initial.last.ipd l.mode (ipds (take l.p-index l.sent)))
    × (l.last.opd ≡ record_after_rows l.initial.last.opd l.mode (opds (take l.p-index l.sent)))
    × Wrote (1362 * l.p-index) l.initial.w
    (spell_each (spell_phases l.mode l.initial.last.ipd l.initial.last.opd) [] (take l.p-index l.sent)) l.w
