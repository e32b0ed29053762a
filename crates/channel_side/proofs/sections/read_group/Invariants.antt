-- The sections that are left are read from the bands that are covered, one a turn.
use Prim.Native.Nat.{◌-◌, ◌≤◌}
use mathlib.Core.Path.{◌≡◌}
use Rattle.bits.specs.InnerAnswers.{reads}
use Rattle.channel_side.specs.Sections.{group_sections}
use Rattle.channel_side.proofs.SectionLaws.{sections_from}
use Rattle.channel_side.proofs.sections.read_group.Given as goal

abbrev pub invariant-loop-count : goal.invariant-loop-count
invariant-loop-count l =
    (l.count ≤ l.max_sfb)
    × (reads (group_sections l.width l.max_sfb l.base l.initial.books) l.s l.at
    ≡ reads (sections_from l.width l.max_sfb l.base l.count l.books) l.s l.place)

abbrev pub decreases-loop-count : goal.decreases-loop-count
decreases-loop-count l = l.max_sfb - l.count
