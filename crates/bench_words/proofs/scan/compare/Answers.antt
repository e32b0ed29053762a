-- The window's front is the word, or the word's front is the whole window, or neither: the definition's own tests.
use borrow.Author.Tests.{le-leb, lt-leb, eq-eqb, ne_eqb}
use Rattle.bench_words.proofs.scan.compare.Goals as goal

pub returns-then-w-m : goal.returns-then-w-m
returns-then-w-m c = simp (le-leb _ _ c.if-l-m.true, eq-eqb _ _ c.if-w-m.true)

pub returns-then-l-m : goal.returns-then-l-m
returns-then-l-m c = simp (le-leb _ _ c.if-l-m.true, ne_eqb _ _ c.if-w-m.false)

pub returns-then-w-c : goal.returns-then-w-c
returns-then-w-c c = simp (lt-leb _ _ c.if-l-m.false, eq-eqb _ _ c.if-w-c.true)

pub returns : goal.returns
returns c = simp (lt-leb _ _ c.if-l-m.false, ne_eqb _ _ c.if-w-c.false)
