-- The test is the definition's.
use borrow.Author.Tests.{lt-ltb, le-ltb}
use Rattle.tables.proofs.part_of.Goals as goal

pub returns-then-t-lt12 : goal.returns-then-t-lt12
returns-then-t-lt12 c = rw (lt-ltb _ _ c.if-t-lt12.true)

pub returns : goal.returns
returns c = rw (le-ltb _ _ c.if-t-lt12.false)
