-- The pulses that are left are read from the last line and those that are laid, one a turn.
use mathlib.Core.Path.{◌≡◌}
use Rattle.bits.specs.InnerAnswers.{reads}
use Rattle.channel_side.specs.InnerAnswers.{Within}
use Rattle.channel_side.specs.Pulses.{each_pulse}
use Rattle.channel_side.proofs.PulseLaws.{rest}
use Rattle.channel_side.proofs.pulses.read_each.Given as goal

abbrev pub invariant-loop-k : goal.invariant-loop-k
invariant-loop-k l = Within l.laid × (reads (each_pulse l.n l.line) l.s l.at ≡ reads (rest l.k l.n l.laid) l.s l.place)
