-- Each byte is the lowest of the number divided by a power of 256.
use Rattle.bits.specs.Bytes.{word_of}
use Rattle.bits.proofs.bytes.word_of.Goals as goal

pub returns : goal.returns
unfolding word_of
returns c = rw (
  c.low_byte.ensures,
  c.low_byte-2.ensures,
  c.low_byte-3.ensures,
  c.low_byte-4.ensures,
)
