-- After i turns the words of the first i indices stand one after another.
use Rattle.stereo_writer.specs.Spelling.{spell_index}
use Rattle.stereo_writer.specs.InnerWrote.{Wrote}
use Rattle.bits.specs.Spelled.{spell_each}
use lib.ListN.{take}
use mathlib.Core.List.{[]}
use Prim.Native.Nat.{◌*◌}
use Rattle.stereo_writer.proofs.rows.put_indices.Given as goal

abbrev pub invariant-loop-i : goal.invariant-loop-i
invariant-loop-i l = Wrote (20 * l.i) l.initial.w (spell_each (spell_index l.kind l.mode l.time l.before) [] (take l.i l.xs)) l.w
