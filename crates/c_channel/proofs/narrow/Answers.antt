-- An index that fits a byte is itself; any other becomes 0, which no band table has.
use borrow.Author.Tests.{lt-ltb, le-ltb}
use Rattle.c_channel.proofs.narrow.Goals as goal

pub returns-then-index-lt256 : goal.returns-then-index-lt256
returns-then-index-lt256 c = rw (lt-ltb _ _ c.if-index-lt256.true)

pub returns : goal.returns
returns c = rw (le-ltb _ _ c.if-index-lt256.false)
