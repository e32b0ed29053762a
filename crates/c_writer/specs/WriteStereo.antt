-- The contents that bytes stand for, written from the state that bytes stand for.
use Rattle.std.specs.Prelude.{ℕ, ◌≡◌, List, [], ◌∷◌, leb, length}
use Rattle.stereo_writer.specs.Writing.{writing, written_over}
use Rattle.stereo_writer.specs.declared.Written.{Written}
use Rattle.bits.specs.Bytes.{word_of}
use Rattle.c_layout.specs.StateBytes.{state_bytes, state_at, sound_bytes}
use Rattle.c_layout.specs.ContentsBytes.{contents_at}
use Rattle.bits.specs.Calls.{Test, ◌or◌, first_refusal, answered}

-- what a call is given: the lent state, the contents, and the lent output and answer
pub record Call : Type 0 where
  pub state : List ℕ
  pub contents : List ℕ
  pub out : List ℕ
  pub answer : List ℕ

-- what is judged before the writer judges: whether the answer fits, the state, and whether the bytes are enough to stand for contents
abbrev pub write_tests : List ℕ → ℕ → ℕ → List Test
write_tests s size room = leb 4 room or 2 ∷ sound_bytes s or 4 ∷ leb 582 size or 40 ∷ []

abbrev pub tests_of : Call → List Test
tests_of c = write_tests c.state (length c.contents) (length c.answer)

-- the writer's own answer
abbrev pub stereo_writing : Call → Written
stereo_writing c = writing (state_at c.state) (contents_at c.contents) (length c.out)

-- the number that comes back
unfoldable pub write_number : Call → ℕ
write_number c = first_refusal (tests_of c) (λ n. n) (stereo_writing c).number

-- the state afterwards
unfoldable pub write_state_after : Call → List ℕ
write_state_after c = answered (write_number c) (state_bytes (stereo_writing c).state) c.state

-- the output afterwards
unfoldable pub write_output_after : Call → List ℕ
write_output_after c =
    first_refusal (tests_of c) (λ n. c.out)
    (written_over (stereo_writing c) (state_at c.state) (contents_at c.contents) c.out)

-- the answer afterwards: a word, the bits that were written
unfoldable pub write_answer_after : Call → List ℕ
write_answer_after c = answered (write_number c) (word_of (stereo_writing c).bits) c.answer

-- everything that a call gives: the number that comes back, and the state, the output and the answer afterwards
abbrev pub WriteStereoPromise : Call → ℕ → List ℕ → List ℕ → List ℕ → Type 0
WriteStereoPromise c r state' out' answer' =
    (r ≡ write_number c) × ((state' ≡ write_state_after c) × ((out' ≡ write_output_after c) × (answer' ≡ write_answer_after c)))
