-- The pulses that are left are applied to the lines that are there, one a turn.
use Prim.Native.Nat.{ℕ, ◌-◌}
use mathlib.Core.Path.{◌≡◌}
use mathlib.Core.List.{List}
use Rattle.bits.specs.Loop.{counted}
use Rattle.channel_side.specs.Pulses.{apply_pulse, apply_pulses}
use Rattle.channel_side.proofs.pulses.apply_pulses.Given as goal

abbrev pub invariant-loop-k : goal.invariant-loop-k
invariant-loop-k l =
    (s : List ℕ) (end : ℕ) →
    apply_pulses l.pulses l.initial.lines s l.at end ≡ counted l.k (l.pulses.count - l.k) (apply_pulse l.pulses) l.lines s l.place end
