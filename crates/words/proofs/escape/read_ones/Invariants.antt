-- Each turn reads one bit; the ninth one is refused where the definition's count runs out.
use Prim.Native.Nat.{◌-◌}
use mathlib.Core.Path.{◌≡◌}
use Rattle.bits.specs.InnerAnswers.{reads}
use Rattle.words.specs.Escape.{ones}
use Rattle.words.proofs.escape.read_ones.Given as goal

abbrev pub invariant-loop-n : goal.invariant-loop-n
invariant-loop-n l = reads (ones 9 0) l.s l.at ≡ reads (ones (9 - l.n) l.n) l.s l.place
