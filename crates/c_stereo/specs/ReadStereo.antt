-- A stereo payload in a range of a buffer, read from the state that bytes stand for.
use Rattle.std.specs.Prelude.{ℕ, ◌≡◌, List, [], ◌∷◌, Bool, eqb, leb, length}
use Rattle.bits.specs.Reader.{pick}
use Rattle.bits.specs.Payload.{Range, is_there, bytes_in}
use Rattle.stereo_reader.specs.Reading.{read_bytes}
use Rattle.stereo_reader.specs.declared.Reading.{Reading}
use Rattle.bits.specs.Bytes.{over}
use Rattle.c_layout.specs.StateBytes.{state_bytes, state_at, sound_bytes}
use Rattle.c_layout.specs.ContentsBytes.{answer_bytes}
use Rattle.bits.specs.Calls.{Test, ◌or◌, first_refusal, returned, answered}
use Rattle.c_stereo.specs.StateCalls.{lost_bytes}

-- what a call is given: the lent state, where the payload stands, and the lent answer
pub record Call : Type 0 where
  pub state : List ℕ
  pub payload : Range
  pub answer : List ℕ

-- what is judged before any bit: the range, whether the answer fits, and the state
abbrev pub stereo_tests : Bool → ℕ → List ℕ → List Test
stereo_tests there room s = there or 1 ∷ leb 582 room or 2 ∷ sound_bytes s or 4 ∷ []

abbrev pub tests_of : Call → List Test
tests_of c = stereo_tests (is_there c.payload) (length c.answer) c.state

-- the reader's own reading
abbrev pub stereo_reading : Call → Reading
stereo_reading c = read_bytes (state_at c.state) (bytes_in c.payload)

-- what comes back
unfoldable pub stereo_returned : Call → ℕ
stereo_returned c = first_refusal (tests_of c) (λ n. n) (returned (stereo_reading c).number (stereo_reading c).place)

-- the state after a reading: the next one where the payload is accepted, else the mark out of step and no other byte touched
abbrev pub moved_on : List ℕ → Reading → List ℕ
moved_on s r = pick (eqb r.number 0) (over s 0 (state_bytes r.state)) (lost_bytes s)

-- the state afterwards: untouched where the call is refused before any bit
unfoldable pub stereo_state_after : Call → List ℕ
stereo_state_after c = first_refusal (tests_of c) (λ n. c.state) (moved_on c.state (stereo_reading c))

-- the answer afterwards
unfoldable pub stereo_answer_after : Call → List ℕ
stereo_answer_after c =
    first_refusal (tests_of c) (λ n. c.answer)
    (answered (stereo_reading c).number (answer_bytes (stereo_reading c).bits (stereo_reading c).contents) c.answer)

-- everything that a call gives: what comes back, and the state and the answer afterwards
abbrev pub ReadStereoPromise : Call → ℕ → List ℕ → List ℕ → Type 0
ReadStereoPromise c r state' answer' =
    (r ≡ stereo_returned c) × ((state' ≡ stereo_state_after c) × (answer' ≡ stereo_answer_after c))
