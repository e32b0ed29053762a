-- For contracts of inner functions only: what the code's answers mean.
use Rattle.std.specs.Prelude.{ℕ, ◌*◌, ◌-◌, ◌≡◌, ◌≤◌, ◌<◌, List, length, ℤ}
use Rattle.std.specs.Prelude.{Result, Ok, Err}
use Rattle.bits.specs.Reader.{Answer, got, refused, ◌>>=◌}
use Rattle.bits.specs.InnerAnswers.{ended_answer, reads}
use Rattle.bits.specs.Payload.{ended}
use Rattle.bits.specs.declared.Refusal.{Refusal}
use Rattle.bits.specs.declared.source.Bits.{Bits}
use Rattle.channel_side.specs.InnerAnswers.{Known}
use Rattle.channel.specs.Stream.{Coded, Stream}
use Rattle.channel.specs.declared.stream.Head.{Head}
use Rattle.adts.specs.Header.{Header}
use Rattle.adts.specs.Block.{Block, element, raw_block}
use Rattle.adts.specs.Frame.{frame_header, frame_stream, stream_in}
use Rattle.adts.specs.declared.header.Header.{Header as Judged}

-- a header that was judged
abbrev pub header_answer : Result (Judged × ℕ) Refusal → Answer Header
header_answer (Ok r) = got (record { index = r.0.index; length = r.0.length }) r.1
header_answer (Err e) = refused e.number e.place

-- a frame lies in its bytes, and its length fits 13 bits
abbrev pub Lies : List ℕ → Result (Judged × ℕ) Refusal → Type 0
Lies bytes = Known (λ h. (h.length ≤ length bytes) × (h.length < 8192))

-- the end of a block is read, whatever stands before it
abbrev pub Closes : Result ℕ Refusal → Bits → ℕ → Type 0
Closes r s at = (x : Block) → ended_answer r x ≡ reads (element 7 >>= λ id. ended x) s at

-- how many bits a stream used; or it was refused
abbrev pub Used : Result ℕ Refusal → Answer Stream → Type 0
Used (Ok bits) x = (a : Stream) × (x ≡ got a bits)
Used (Err e) x = x ≡ refused e.number e.place

-- the element of a stream that was read, up to a place, with its head, books, scale factors and lines; or it was refused
abbrev pub HoldsElement : Result (Head × ℕ) Refusal → List ℕ → List ℕ → List ℤ → Answer Block → Type 0
HoldsElement (Ok r) books factors lines x =
    (c : Coded) × (c.lines ≡ lines)
    × (x ≡ got (record { stream = record { head = r.0; books = books; factors = factors; coded = c }; bits = r.1 - 63 }) r.1)
HoldsElement (Err e) books factors lines x = x ≡ refused e.number e.place

-- a stream that was read has this head, and used so many bits; or it was refused
abbrev pub HoldsHead : Result (Head × ℕ) Refusal → Answer Stream → Type 0
HoldsHead (Ok r) x = (a : Stream) × (a.head ≡ r.0) × (x ≡ got a r.1)
HoldsHead (Err e) x = x ≡ refused e.number e.place

-- the stream of the frame of a header at the front of some bytes
abbrev pub stream_of : Judged → List ℕ → Answer Stream
stream_of h bytes = stream_in (raw_block h.index bytes 56 (8 * h.length))

-- the stream of the frame at the front of some bytes
abbrev pub first_stream : List ℕ → Answer Stream
first_stream bytes = frame_stream bytes (frame_header bytes)
