-- What is promised of a call: its answer, and what is lent afterwards.
use Rattle.std.specs.Prelude.{ℕ, ◌≡◌, List, [], ◌∷◌, Bool, true, leb, length, drop}
use Rattle.bits.specs.Reader.{Answer, got, refused, pick}
use Rattle.bits.specs.Bytes.{over}
use Rattle.bits.specs.Packed.{bytes_for}
use Rattle.bits.specs.Payload.{Range, bytes_in}
use Rattle.bits.specs.Calls.{◌or◌, first_refusal}
use Rattle.channel.specs.Stream.{Stream}
use Rattle.channel.specs.Promise.{Outputs, have_room, channel, reading_of, outputs_after}
use Rattle.channel.specs.declared.Reading.{Reading}
use Rattle.adts.specs.Header.{Header}
use Rattle.adts.specs.Frame.{frame_header, frame_stream}
use Rattle.adts.specs.Cut.{cut_out}
use Rattle.adts.specs.Wrapping.{frame_length, wrapping}
use Rattle.adts.specs.declared.Framed.{Framed}
use Rattle.adts.specs.declared.Wrapped.{Wrapped}

-- the header of the frame at a byte of a file: the start, and whether the outputs have room, are judged before it
unfoldable pub header_at : List ℕ → ℕ → Bool → Answer Header
header_at file start room =
    first_refusal (leb start (length file) or 1 ∷ room or 2 ∷ []) (λ n. refused n 0) (frame_header (drop start file))

-- the stream of the frame at a byte of a file, after its header, and the bits that it used
abbrev pub stream_at : List ℕ → ℕ → Answer Header → Answer Stream
stream_at file start h = frame_stream (drop start file) h

-- an answer: index and length stand wherever the header was accepted
abbrev pub framed : Answer Header → Reading → Framed
framed (got h next) r = record { index = h.index; length = h.length; reading = r }
framed (refused n place) r = record { index = 0; length = 0; reading = r }

-- what reading a frame is given: a file, where the frame starts, and the lent outputs
pub record FrameCall : Type 0 where
  pub file : List ℕ
  pub start : ℕ
  pub outputs : Outputs

-- everything that reading a frame gives: the answer, and the outputs afterwards
abbrev pub ReadFramePromise : FrameCall → Framed → Outputs → Type 0
ReadFramePromise c r after =
    let h = header_at c.file c.start (have_room c.outputs) in
    let x = stream_at c.file c.start h in
    (r ≡ framed h (reading_of x)) × (after ≡ outputs_after x c.outputs)

-- a stream, which takes bytes by the bits that it used, has to fit so many, or 2
abbrev pub fitted : (ℕ → ℕ) → ℕ → Answer Stream → Answer Stream
fitted size room (got x bits) = pick (leb (size bits) room) (got x bits) (refused 2 0)
fitted size room (refused n place) = refused n place

-- the lent bytes after unwrapping the frame at the front of some bytes: the bits of its stream, from bit 63 of the frame, or as they were
abbrev pub unwrapped : List ℕ → Answer Stream → List ℕ → List ℕ
unwrapped bytes (got x bits) old = over old 0 (cut_out bytes 63 bits)
unwrapped bytes (refused n place) old = old

-- everything that unwrapping a frame gives: the answer, and the lent bytes afterwards
abbrev pub UnwrapPromise : List ℕ → ℕ → List ℕ → Framed → List ℕ → Type 0
UnwrapPromise file start out r out' =
    let h = header_at file start true in
    let x = fitted bytes_for (length out) (stream_at file start h) in
    (r ≡ framed h (reading_of x)) × (out' ≡ unwrapped (drop start file) x out)

-- a channel stream in a range, or what refuses it, as the channel's reader says; 2 last, where its frame does not fit
unfoldable pub wrappable : Range → ℕ → ℕ → Answer Stream
wrappable p index room = fitted frame_length room (channel p index true)

-- the answer: the frame's length in bytes
abbrev pub wrapped_of : Answer Stream → Wrapped
wrapped_of (got x bits) = record { number = 0; place = 0; length = frame_length bits }
wrapped_of (refused n place) = record { number = n; place = place; length = 0 }

-- the lent bytes after wrapping the stream that is at the front of some bytes, or as they were
abbrev pub wrapped_bytes : ℕ → List ℕ → Answer Stream → List ℕ → List ℕ
wrapped_bytes index bytes (got x bits) old = over old 0 (wrapping index bytes bits)
wrapped_bytes index bytes (refused n place) old = old

-- what wrapping is given: where the payload stands, the sampling index, and the lent bytes
pub record WrapCall : Type 0 where
  pub payload : Range
  pub index : ℕ
  pub out : List ℕ

-- everything that wrapping a channel stream gives: the answer, and the lent bytes afterwards
abbrev pub WrapPromise : WrapCall → Wrapped → List ℕ → Type 0
WrapPromise c r after =
    let x = wrappable c.payload c.index (length c.out) in
    (r ≡ wrapped_of x) × (after ≡ wrapped_bytes c.index (bytes_in c.payload) x c.out)
