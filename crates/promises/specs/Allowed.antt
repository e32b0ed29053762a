-- What the rules allow: of a range of a buffer a channel stream with these numbers, and a stereo payload from a state with these contents;
-- at a byte of a file a frame with these numbers.
use Rattle.std.specs.Prelude.{ℕ, ◌+◌, ◌*◌, ◌-◌, ◌≤◌, ◌≡◌, List, true, ◌||◌, length, drop}
use Rattle.bits.specs.Reader.{got}
use Rattle.bits.specs.Field.{field}
use Rattle.bits.specs.Payload.{Range, is_there, bytes_in}
use Rattle.bits.specs.Sampling.{known_index}
use Rattle.channel.specs.Stream.{Stream, stream}
use Rattle.adts.specs.Header.{Header}
use Rattle.adts.specs.Block.{element}
use Rattle.adts.specs.Frame.{whole_header}
use Rattle.channel.specs.Promise.{Outputs, have_room}
use Rattle.stereo.specs.State.{sound}
use Rattle.stereo.specs.Payload.{payload}
use Rattle.stereo.specs.Restart.{restart}
use Rattle.stereo_reader.specs.Reading.{from}
use Rattle.stereo.specs.declared.State.{State}
use Rattle.stereo.specs.declared.Contents.{Contents}

-- a range in its buffer, outputs that have room, a known index; and its bytes are the stream, with at most 7 bits left
pub record StreamAllowed (p : Range) (index : ℕ) (o : Outputs) (x : Stream) (bits : ℕ) : Type 0 where
  pub inside : is_there p ≡ true
  pub lines_fit : 1024 ≤ length o.lines
  pub factors-fit : 120 ≤ length o.factors
  pub books-fit : 120 ≤ length o.books
  pub known : known_index index ≡ true
  pub read : stream index (bytes_in p) 0 (8 * length (bytes_in p)) ≡ got x bits
  pub left : 8 * length (bytes_in p) - bits ≤ 7

-- a range in its buffer, a sound state; its bytes are the payload, with at most 7 bits left; and out of step it is a restart
pub record PayloadAllowed (st : State) (p : Range) (c : Contents) (bits : ℕ) : Type 0 where
  pub inside : is_there p ≡ true
  pub sound : sound st ≡ true
  pub read : payload (from st) (bytes_in p) 0 (8 * length (bytes_in p)) ≡ got c bits
  pub left : 8 * length (bytes_in p) - bits ≤ 7
  pub step : (st.instep || restart c) ≡ true

-- a start in the file, outputs that have room; a header whose fields are right, and a length that fits; then a single channel element
-- with any tag, whose stream starts at bit 63, and the end element, with at most 7 bits left in the frame
pub record FrameAllowed (file : List ℕ) (start : ℕ) (o : Outputs) (h : Header) (x : Stream) (bits : ℕ) : Type 0 where
  pub inside : start ≤ length file
  pub fit : have_room o ≡ true
  pub header : (next : ℕ) × (whole_header (drop start file) 0 (8 * length (drop start file)) ≡ got h next)
  pub long : 7 ≤ h.length
  pub there : h.length ≤ length (drop start file)
  pub opening : element 0 (drop start file) 56 (8 * h.length) ≡ got 0 59
  pub tag : (t : ℕ) × (field 4 (drop start file) 59 (8 * h.length) ≡ got t 63)
  pub read : stream h.index (drop start file) 63 (8 * h.length) ≡ got x (63 + bits)
  pub finish : element 7 (drop start file) (63 + bits) (8 * h.length) ≡ got 7 (63 + bits + 3)
  pub left : 8 * h.length - (63 + bits + 3) ≤ 7
