-- The groups that are left are read into the lines that are there, one a turn.
use Prim.Native.Nat.{◌*◌, ◌-◌, ◌≤◌}
use mathlib.Core.Path.{◌≡◌}
use Rattle.channel_bands.specs.Grouping.{groups_after}
use Rattle.channel_lines.specs.Spectrum.{group_lines}
use Rattle.channel_lines.proofs.lines.read_groups.Given as goal

abbrev pub invariant-loop-from : goal.invariant-loop-from
invariant-loop-from l =
    (l.from ≤ 8)
    × (l.base ≤ 15 * l.from)
    × (group_lines l.edges l.max_sfb l.books (groups_after 8 l.grouping) 0 0 l.initial.lines l.s.bytes.now l.at l.s.end
    ≡ group_lines l.edges l.max_sfb l.books (groups_after (8 - l.from) l.grouping) l.base l.from l.lines l.s.bytes.now l.place l.s.end)

abbrev pub decreases-loop-from : goal.decreases-loop-from
decreases-loop-from l = 8 - l.from
