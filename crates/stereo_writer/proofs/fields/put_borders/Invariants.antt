-- After each turn the borders so far stand one after another, 5 bits each.
use Rattle.stereo_writer.specs.Spelling.{spell_border}
use Rattle.stereo_writer.specs.InnerWrote.{Wrote}
use Rattle.bits.specs.Spelled.{spell_each}
use lib.ListN.{take}
use mathlib.Core.List.{[]}
use Prim.Native.Nat.{◌*◌}
use Rattle.stereo_writer.proofs.fields.put_borders.Given as goal

abbrev pub invariant-loop-border : goal.invariant-loop-border
invariant-loop-border l = Wrote (5 * l.border-index) l.initial.w (spell_each spell_border [] (take l.border-index l.sent)) l.w
