-- The four tests are the definition's.
use borrow.Author.Tests.{eq-eqb, ne_eqb}
use Rattle.bits.proofs.calls.is_known_index.Goals as goal

pub returns-then-index-eq3 : goal.returns-then-index-eq3
returns-then-index-eq3 c = rw (eq-eqb _ _ c.if-index-eq3.true)

pub returns-then-index-eq4 : goal.returns-then-index-eq4
returns-then-index-eq4 c = rw (ne_eqb _ _ c.if-index-eq3.false, eq-eqb _ _ c.if-index-eq4.true)

pub returns-then-index-eq6 : goal.returns-then-index-eq6
returns-then-index-eq6 c = rw (ne_eqb _ _ c.if-index-eq3.false, ne_eqb _ _ c.if-index-eq4.false, eq-eqb _ _ c.if-index-eq6.true)

pub returns : goal.returns
returns c = rw (ne_eqb _ _ c.if-index-eq3.false, ne_eqb _ _ c.if-index-eq4.false, ne_eqb _ _ c.if-index-eq6.false)
