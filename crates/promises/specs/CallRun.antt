-- Runs of calls: the reader by value, over a lent state, and for C over the bytes that a handset keeps; and the stereo payloads of an
-- image.
use Rattle.std.specs.Prelude.{ℕ, zero, suc, ◌≡◌, List, [], ◌∷◌, ◌++◌, eqb, length}
use Rattle.bits.specs.Reader.{pick}
use Rattle.bits.specs.Bits.{bits_from}
use Rattle.bits.specs.Payload.{Range, range_in}
use Rattle.bits.specs.Calls.{number_in, place_in}
use Rattle.stereo.specs.declared.State.{State}
use Rattle.stereo.specs.declared.Contents.{Contents}
use Rattle.stereo_reader.specs.Reading.{read_from, missing}
use Rattle.stereo_lent.specs.Lent.{answer_of}
use Rattle.stereo_lent.specs.declared.Answer.{Answer}
use Rattle.c_layout.specs.StateBytes.{state_at}
use Rattle.c_layout.specs.ContentsBytes.{contents_at}
use Rattle.c_stereo.specs.StateCalls.{missing_number, missing_after}
use Rattle.c_stereo.specs.ReadStereo.{Call, stereo_returned, stereo_state_after, stereo_answer_after}
use Rattle.image.specs.Image.{bytes_of}
use Rattle.image_outline.specs.Answers.{is_even, stereo_in, state_before}
use Rattle.runs.specs.Machine.{Event, payload, missing as reporting, Outcome, answered, refusal, reported, Turn, run}
use Rattle.promises.specs.Run.{stereo, turn_of, report_of}

-- by value: the state that a call answers is handed to the next
abbrev pub calls : State → List Event → List (Turn State Contents)
calls st [] = []
calls st (payload p ∷ es) = turn_of (read_from st p) ∷ calls (read_from st p).state es
calls st (reporting ∷ es) = report_of (missing st) ∷ calls (missing st).state es

-- what an answer beside a lent state says
abbrev pub outcome_of : Answer → Outcome Contents
outcome_of a = pick (eqb a.number 0) (answered a.contents a.bits) (refusal a.number a.place)

-- what the number of a report says
abbrev pub report_outcome : ℕ → Outcome Contents
report_outcome number = pick (eqb number 0) reported (refusal number 0)

-- over a lent state: each call's answer, with the state that it leaves
abbrev pub lent_calls : State → List Event → List (Turn State Contents)
lent_calls st [] = []
lent_calls st (payload p ∷ es) =
    record { outcome = outcome_of (answer_of (read_from st p)); state = (read_from st p).state } ∷ lent_calls (read_from st p).state es
lent_calls st (reporting ∷ es) =
    record { outcome = report_outcome (missing st).number; state = (missing st).state } ∷ lent_calls (missing st).state es

-- what a handset keeps: the bytes of a state and of an answer
pub record Kept : Type 0 where
  pub state : List ℕ
  pub answer : List ℕ

-- what a call of oarcradler_read_stereo is given
abbrev pub call_of : Kept → Range → Call
call_of k p = record { state = k.state; payload = p; answer = k.answer }

-- what it keeps after oarcradler_read_stereo and after oarcradler_report_missing
abbrev pub kept_after : Kept → Event → Kept
kept_after k (payload p) = record { state = stereo_state_after (call_of k p); answer = stereo_answer_after (call_of k p) }
kept_after k reporting = record { state = missing_after k.state; answer = k.answer }

-- what comes back says, with what the kept answer then holds: a refusal's number and place; or the contents, and the bits, which are the
-- answer's first word
abbrev pub byte_outcome : Kept → Event → Outcome Contents
byte_outcome k (payload p) =
    pick (eqb (stereo_returned (call_of k p)) 0)
    (answered (contents_at (kept_after k (payload p)).answer) (bits_from (kept_after k (payload p)).answer 0 32))
    (refusal (number_in (stereo_returned (call_of k p))) (place_in (stereo_returned (call_of k p))))
byte_outcome k reporting = report_outcome (missing_number k.state)

-- each call's outcome, with the state that the bytes stand for after it
abbrev pub byte_calls : Kept → List Event → List (Turn State Contents)
byte_calls k [] = []
byte_calls k (e ∷ es) = record { outcome = byte_outcome k e; state = state_at (kept_after k e).state } ∷ byte_calls (kept_after k e) es

-- an image's odd payloads below the k-th, each a payload that fills its part
abbrev pub odd_payload : List ℕ → ℕ → Event
odd_payload s k = payload (range_in (bytes_of s k) 0 (length (bytes_of s k)))

abbrev pub odd_payloads : List ℕ → ℕ → List Event
odd_payloads s zero = []
odd_payloads s (suc k) = odd_payloads s k ++ pick (is_even k) [] (odd_payload s k ∷ [])

-- what the image's outline is made of: their answers, each from the state before it
abbrev pub odd_turns : List ℕ → ℕ → List (Turn State Contents)
odd_turns s zero = []
odd_turns s (suc k) = odd_turns s k ++ pick (is_even k) [] (turn_of (stereo_in (state_before s k) (bytes_of s k)) ∷ [])

-- a way of calling is faithful where its answers from the fresh state on are the machine's run
abbrev pub Faithful : (List Event → List (Turn State Contents)) → Type 0
Faithful answers = (es : List Event) → answers es ≡ run stereo stereo.fresh es
