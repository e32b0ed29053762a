-- The frame at a byte of a file, read.
use Rattle.std.specs.Prelude.{ℕ, ◌≡◌, List, ◌&&◌, leb, length}
use Rattle.bits.specs.Calls.{returned_of}
use Rattle.channel.specs.Promise.{Outputs, have_room, reading_of, outputs_after}
use Rattle.adts.specs.Promise.{header_at, stream_at, framed}
use Rattle.c_adts.specs.FrameBytes.{frame_answer_after}

-- what a call is given: a file, where the frame starts, the lent outputs and the lent answer
pub record Call : Type 0 where
  pub file : List ℕ
  pub start : ℕ
  pub outputs : Outputs
  pub answer : List ℕ

-- everything that a call gives: what comes back, and the outputs and the answer afterwards; an answer that does not fit is judged with
-- the outputs
abbrev pub ReadFramePromise : Call → ℕ → Outputs → List ℕ → Type 0
ReadFramePromise c r outputs' answer' =
    let h = header_at c.file c.start (leb 22 (length c.answer) && have_room c.outputs) in
    let x = stream_at c.file c.start h in
    (r ≡ returned_of x)
    × ((outputs' ≡ outputs_after x c.outputs) × (answer' ≡ frame_answer_after (framed h (reading_of x)) c.answer))
