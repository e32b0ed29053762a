-- A channel stream in a range of a buffer. Its answer is 17 bytes: the bits used as a word; gain, window sequence,
-- window shape, max_sfb and the number of groups; the windows of each of eight groups.
use Rattle.std.specs.Prelude.{ℕ, ◌≡◌, List, [], ◌∷◌, ◌++◌, length}
use Rattle.bits.specs.Reader.{Answer, refused}
use Rattle.bits.specs.Payload.{Range, is_there}
use Rattle.channel.specs.Stream.{Stream}
use Rattle.channel.specs.Promise.{Outputs, have_room, channel, reading_of, outputs_after}
use Rattle.channel.specs.declared.Reading.{Reading}
use Rattle.bits.specs.Bytes.{word_of}
use Rattle.bits.specs.Calls.{first_refusal, call_tests, returned_of, answered}

unfoldable pub channel_bytes : Reading → List ℕ
channel_bytes r = word_of r.bits ++ r.gain ∷ r.sequence ∷ r.shape ∷ r.max_sfb ∷ r.group_count ∷ [] ++ r.groups

-- what a call is given: where the payload stands, the sampling index, the lent outputs and the lent answer
pub record Call : Type 0 where
  pub payload : Range
  pub index : ℕ
  pub outputs : Outputs
  pub answer : List ℕ

-- the stream, or what refuses it: the range, and whether the answer fits, are judged before what the reader judges
unfoldable pub channel_call : Call → Answer Stream
channel_call c =
    first_refusal (call_tests (is_there c.payload) 17 (length c.answer)) (λ n. refused n 0)
    (channel c.payload c.index (have_room c.outputs))

-- the answer afterwards
abbrev pub channel_answer_after : Answer Stream → List ℕ → List ℕ
channel_answer_after x old = answered (reading_of x).number (channel_bytes (reading_of x)) old

-- everything that a call gives: what comes back, and the outputs and the answer afterwards
abbrev pub ReadChannelPromise : Call → ℕ → Outputs → List ℕ → Type 0
ReadChannelPromise c r outputs' answer' =
    let x = channel_call c in
    (r ≡ returned_of x) × ((outputs' ≡ outputs_after x c.outputs) × (answer' ≡ channel_answer_after x c.answer))
