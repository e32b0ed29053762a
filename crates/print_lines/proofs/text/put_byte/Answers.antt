-- Where the line is full it stays; else the byte is stored, and the place is the next.
-- Assumes nothing.
use borrow.Author.Tests.{le-ltb, lt-ltb}
use Rattle.print_lines.proofs.text.put_byte.Goals as goal

pub returns-then-line-at : goal.returns-then-line-at
returns-then-line-at c = rw (le-ltb _ _ c.if-line-at.true)

pub returns : goal.returns
returns c = rw (lt-ltb _ _ c.if-line-at.false)
