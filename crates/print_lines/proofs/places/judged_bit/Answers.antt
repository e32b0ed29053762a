-- The three tests are the definition's: below 10 it is not 53.
-- Assumes nothing.
use native.Mathlib.Omega.{arith}
use borrow.Author.Tests.{le-leb, lt-leb, ne_eqb}
use Rattle.print_lines.proofs.places.judged_bit.Goals as goal

pub returns-then-number-lt10 : goal.returns-then-number-lt10
returns-then-number-lt10 c = rw (lt-leb _ _ c.if-number-lt10.true, ne_eqb c.args.number 53 (λ e. absurd (omega arith)))

pub returns-then-number-le35 : goal.returns-then-number-le35
returns-then-number-le35 c = rw (le-leb _ _ c.if-number-lt10.false, le-leb _ _ c.if-number-le35.true)

pub returns : goal.returns
returns c = rw (le-leb _ _ c.if-number-lt10.false, lt-leb _ _ c.if-number-le35.false)
