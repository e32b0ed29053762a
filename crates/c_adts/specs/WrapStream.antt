-- The channel stream in a range of a buffer, wrapped as one frame. Its answer is 4 bytes: the frame's length as a word.
use Rattle.std.specs.Prelude.{ℕ, ◌≡◌, List, length}
use Rattle.bits.specs.Reader.{Answer, refused}
use Rattle.bits.specs.Bytes.{word_of}
use Rattle.bits.specs.Payload.{Range, is_there, bytes_in}
use Rattle.bits.specs.Calls.{first_refusal, call_tests, returned_of, answered}
use Rattle.channel.specs.Stream.{Stream}
use Rattle.adts.specs.Promise.{wrappable, wrapped_of, wrapped_bytes}

-- what a call is given: where the payload stands, the sampling index, the lent bytes and the lent answer
pub record Call : Type 0 where
  pub payload : Range
  pub index : ℕ
  pub out : List ℕ
  pub answer : List ℕ

-- the stream, or what refuses it: the range, and whether the answer fits, are judged before what the wrapping judges
unfoldable pub wrap_call : Call → Answer Stream
wrap_call c =
    first_refusal (call_tests (is_there c.payload) 4 (length c.answer)) (λ n. refused n 0)
    (wrappable c.payload c.index (length c.out))

-- the answer afterwards
abbrev pub wrap_answer_after : Answer Stream → List ℕ → List ℕ
wrap_answer_after x old = answered (wrapped_of x).number (word_of (wrapped_of x).length) old

-- everything that a call gives: what comes back, and the lent bytes and answer afterwards
abbrev pub WrapStreamPromise : Call → ℕ → List ℕ → List ℕ → Type 0
WrapStreamPromise c r out' answer' =
    let x = wrap_call c in
    (r ≡ returned_of x)
    × ((out' ≡ wrapped_bytes c.index (bytes_in c.payload) x c.out) × (answer' ≡ wrap_answer_after x c.answer))
