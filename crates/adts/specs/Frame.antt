-- A frame at the front of some bytes: its header, then its raw block, which ends where the frame ends.
use Rattle.std.specs.Prelude.{ℕ, ◌*◌, List, ◌&&◌, leb, length}
use Rattle.bits.specs.Reader.{Answer, got, refused, Reader, pick}
use Rattle.bits.specs.Places.{one_field}
use Rattle.bits.specs.Inside.{inside}
use Rattle.channel.specs.Stream.{Stream}
use Rattle.adts.specs.Header.{Header, header}
use Rattle.adts.specs.Block.{Block, raw_block}

-- the header as one field: 10 where it is not whole, before anything in it is judged
unfoldable pub whole_header : Reader Header
whole_header = one_field (inside 56 10 header)

-- the frame's length is 7 bytes at least, and no more than there are, or 52
unfoldable pub fitting : ℕ → Header → Answer Header
fitting there h = pick (leb 7 h.length && leb h.length there) (got h 56) (refused 52 0)

-- an answer, if it is a header, with its length judged
abbrev pub length_judged : ℕ → Answer Header → Answer Header
length_judged there (got h next) = fitting there h
length_judged there (refused n place) = refused n place

-- the header of the frame at the front of some bytes
unfoldable pub frame_header : List ℕ → Answer Header
frame_header bytes = length_judged (length bytes) (whole_header bytes 0 (8 * length bytes))

-- the raw block after a header; no bit past the frame's length counts
abbrev pub block_after : List ℕ → Answer Header → Answer Block
block_after bytes (got h next) = raw_block h.index bytes 56 (8 * h.length)
block_after bytes (refused n place) = refused n place

-- the stream of a block, and the bits that it used
abbrev pub stream_in : Answer Block → Answer Stream
stream_in (got x next) = got x.stream x.bits
stream_in (refused n place) = refused n place

-- the stream of the frame at the front of some bytes, and the bits that it used
abbrev pub frame_stream : List ℕ → Answer Header → Answer Stream
frame_stream bytes h = stream_in (block_after bytes h)
