-- The factors that are left are read from the last one and those that are there, one a turn.
use Prim.Native.Nat.{◌≤◌}
use mathlib.Core.Path.{◌≡◌}
use Rattle.bits.specs.InnerAnswers.{reads}
use Rattle.channel_side.specs.Factors.{first_factors}
use Rattle.channel_side.proofs.FactorLaws.{rest}
use Rattle.channel_side.proofs.factors.read_factors.Given as goal

abbrev pub invariant-loop-i : goal.invariant-loop-i
invariant-loop-i l =
    (l.last ≤ 255)
    × (reads (first_factors l.n l.gain l.books l.initial.factors) l.s l.at ≡ reads (rest l.i l.n l.last l.books l.factors) l.s l.place)
