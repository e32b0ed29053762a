-- The raw block of a frame: one single channel element, then the end element.
use Rattle.std.specs.Prelude.{ℕ, ◌-◌, eqb}
use Rattle.bits.specs.Reader.{Reader, give, expecting, ◌>>=◌}
use Rattle.bits.specs.Field.{field}
use Rattle.bits.specs.Places.{here}
use Rattle.bits.specs.Payload.{ended}
use Rattle.channel.specs.Stream.{Stream, stream}

-- the channel stream, and the bits that it used
pub record Block : Type 0 where
  pub stream : Stream
  pub bits : ℕ

-- the id of an element, which has to be a number, or 53
unfoldable pub element : ℕ → Reader ℕ
element id = expecting 53 (λ v. eqb v id) (field 3)

-- a single channel element: its id is 0; a free tag; the stream
unfoldable pub single_channel : ℕ → Reader Block
single_channel index = do
  id ← element 0
  tag ← field 4
  first ← here
  x ← stream index
  last ← here
  give (record { stream = x; bits = last - first })

-- the element, and the end element, whose id is 7; at most 7 bits are left after it, or 12
unfoldable pub raw_block : ℕ → Reader Block
raw_block index = do
  x ← single_channel index
  id ← element 7
  ended x
