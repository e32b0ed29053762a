-- The windows that are left are read into the lines that are there, one a turn.
use Prim.Native.Nat.{◌+◌, ◌-◌}
use mathlib.Core.Path.{◌≡◌}
use Rattle.bits.specs.Loop.{counted}
use Rattle.channel_lines.specs.Spectrum.{window_band, windows_band}
use Rattle.channel_lines.proofs.lines.read_windows.Given as goal

abbrev pub invariant-loop-v : goal.invariant-loop-v
invariant-loop-v l =
    windows_band l.number l.first l.width l.fn.group.from l.fn.group.windows l.initial.lines l.s.bytes.now l.at l.s.end
    ≡ counted l.v (l.fn.group.from + l.fn.group.windows - l.v) (window_band l.number l.first l.width) l.lines l.s.bytes.now l.place l.s.end
