-- The test is the definition's.
use mathlib.Core.Path.{refl}
use native.Mathlib.Omega.{arith}
use borrow.Author.Tests.{eq-eqb, ne_eqb}
use Rattle.channel_words.proofs.signs.sign_count.Goals as goal

pub returns-then-d-eq0 : goal.returns-then-d-eq0
returns-then-d-eq0 c = rw (eq-eqb _ _ c.if-d-eq0.true) (refl, omega arith)

pub returns : goal.returns
returns c = rw (ne_eqb _ _ c.if-d-eq0.false) (refl, omega arith)
