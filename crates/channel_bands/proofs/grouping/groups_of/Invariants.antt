-- Each turn adds the group that starts at the next window, to those that are found.
use Prim.Native.Nat.{ℕ, ◌*◌, ◌-◌, ◌≤◌}
use mathlib.Core.List.{List}
use Rattle.channel_bands.specs.Grouping.{groups_after, groups_of}
use Rattle.channel_bands.proofs.GroupingLaws.{Found}
use Rattle.channel_bands.proofs.grouping.groups_of.Given as goal

abbrev pub invariant-loop-from : goal.invariant-loop-from
invariant-loop-from l =
    (l.count ≤ l.from)
    × (l.from ≤ 8)
    × (l.from ≤ 8 * l.count)
    × ((done : List ℕ) × Found (groups_of l.short l.grouping) done (groups_after (8 - l.from) l.grouping) l.windows l.count)

abbrev pub decreases-loop-from : goal.decreases-loop-from
decreases-loop-from l = 8 - l.from
