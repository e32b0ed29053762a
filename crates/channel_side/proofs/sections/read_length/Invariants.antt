-- What is left of the length is read from the bands that are there; an increment of all ones adds one at least, so that the room is passed
-- in the end.
use Prim.Native.Nat.{◌-◌, ◌≤◌}
use mathlib.Core.Path.{◌≡◌}
use Rattle.bits.specs.InnerAnswers.{reads}
use Rattle.channel_side.specs.Sections.{section_length}
use Rattle.channel_side.proofs.SectionLaws.{length_from}
use Rattle.channel_side.proofs.sections.read_length.Given as goal

abbrev pub invariant-loop-more : goal.invariant-loop-more
invariant-loop-more l =
    (l.bands ≤ l.room) × (reads (section_length l.width l.room) l.s l.at ≡ reads (length_from l.width l.room l.bands) l.s l.place)

abbrev pub decreases-loop-more : goal.decreases-loop-more
decreases-loop-more l = l.room - l.bands
