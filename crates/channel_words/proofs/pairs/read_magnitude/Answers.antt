-- The flag is followed by an escape, whose magnitude is 8191 at most.
use Prim.Native.Nat.{ℕ, ◌≤◌}
use mathlib.Core.Path.{◌≡◌, sym}
use mathlib.Core.List.{List}
use native.Mathlib.Omega.{arith}
use Rattle.std.proofs.Common.{Result, Ok, Err}
use Rattle.std.specs.Result.{IfOk}
use Rattle.bits.specs.InnerAnswers.{answer_of}
use Rattle.bits.specs.declared.Refusal.{Refusal}
use Rattle.words.specs.Escape.{escape}
use Rattle.words.proofs.EscapeLaws.{escape-spelt}
use Rattle.channel_words.proofs.pairs.read_magnitude.Goals as goal

escape-fits : (s : List ℕ) (at end : ℕ) (x : Result (ℕ × ℕ) Refusal) → answer_of x ≡ escape s at end → IfOk x (λ r. r.0 ≤ 8191)
escape-fits s at end (Ok r) e = let w = escape-spelt.law s at end r.1 r.0 (sym e) in omega (arith, w.4)
escape-fits s at end (Err r) e = tt

pub returns-then-d-eq16-clause-fits : goal.returns-then-d-eq16-clause-fits
returns-then-d-eq16-clause-fits c = escape-fits _ _ _ _ c.read_escape.ensures
