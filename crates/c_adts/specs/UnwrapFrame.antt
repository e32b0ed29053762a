-- The stream of the frame at a byte of a file, cut out.
use Rattle.std.specs.Prelude.{ℕ, ◌≡◌, List, leb, length, drop}
use Rattle.bits.specs.Packed.{bytes_for}
use Rattle.bits.specs.Calls.{returned_of}
use Rattle.channel.specs.Promise.{reading_of}
use Rattle.adts.specs.Promise.{header_at, stream_at, framed, fitted, unwrapped}
use Rattle.c_adts.specs.FrameBytes.{frame_answer_after}

-- what a call is given: a file, where the frame starts, the lent bytes and the lent answer
pub record Call : Type 0 where
  pub file : List ℕ
  pub start : ℕ
  pub out : List ℕ
  pub answer : List ℕ

-- everything that a call gives: what comes back, and the lent bytes and answer afterwards; an answer that does not fit is judged before
-- the frame, lent bytes that the stream does not fit after it
abbrev pub UnwrapFramePromise : Call → ℕ → List ℕ → List ℕ → Type 0
UnwrapFramePromise c r out' answer' =
    let h = header_at c.file c.start (leb 22 (length c.answer)) in
    let x = fitted bytes_for (length c.out) (stream_at c.file c.start h) in
    (r ≡ returned_of x)
    × ((out' ≡ unwrapped (drop c.start c.file) x c.out) × (answer' ≡ frame_answer_after (framed h (reading_of x)) c.answer))
