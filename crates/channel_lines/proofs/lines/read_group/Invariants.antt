-- The bands that are left are read into the lines that are there, one a turn.
use Prim.Native.Nat.{◌-◌}
use mathlib.Core.Path.{◌≡◌}
use Rattle.bits.specs.Loop.{counted}
use Rattle.channel_lines.specs.Spectrum.{group_band}
use Rattle.channel_lines.proofs.lines.read_group.Given as goal

abbrev pub invariant-loop-b : goal.invariant-loop-b
invariant-loop-b l =
    let f = group_band l.edges l.books l.group.base l.group.from l.group.windows in
    counted 0 l.max_sfb f l.initial.lines l.s.bytes.now l.at l.s.end
    ≡ counted l.b (l.max_sfb - l.b) f l.lines l.s.bytes.now l.place l.s.end
