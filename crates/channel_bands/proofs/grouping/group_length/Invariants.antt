-- A grouping bit of 1 makes the group at hand longer by a window; the first 0, or the last window, ends it.
use Prim.Native.Nat.{◌+◌, ◌-◌}
use mathlib.Core.Path.{◌≡◌}
use Rattle.channel_bands.specs.Grouping.{groups_from, groups_after}
use Rattle.channel_bands.proofs.grouping.group_length.Given as goal

abbrev pub invariant-loop-n : goal.invariant-loop-n
invariant-loop-n l = groups_after (8 - l.from) l.grouping ≡ groups_from (8 - (l.from + l.n)) l.grouping l.n
