-- What every call shares: the tests that it has to pass before anything is read, what comes back to a program in C, and a lent answer
-- afterwards.
use Rattle.std.specs.Prelude.{ℕ, ◌+◌, ◌*◌, ◌/◌, ◌%◌, List, [], ◌∷◌, Bool, eqb, leb}
use Rattle.bits.specs.Reader.{Answer, got, refused, pick}
use Rattle.bits.specs.Bytes.{over}

infix 70 ◌or◌
-- a test that has to be passed, or the call is refused with a number
pub data Test : Type 0 where
  ◌or◌ : Bool → ℕ → Test

-- the first of these refusals; where every test is passed, the answer
abbrev pub first_refusal : {A : Type 0} → List Test → (ℕ → A) → A → A
first_refusal [] refusal answer = answer
first_refusal (passed or number ∷ tests) refusal answer = pick passed (first_refusal tests refusal answer) (refusal number)

-- the number of the first of these refusals; where every test is passed, 0
abbrev pub first_number : List Test → ℕ
first_number tests = first_refusal tests (λ number. number) 0

-- what is asked for lies in its buffer, or 1; a lent answer has room for the bytes that it needs, or 2
abbrev pub call_tests : Bool → ℕ → ℕ → List Test
call_tests there need room = there or 1 ∷ leb need room or 2 ∷ []

-- what comes back to a program in C: a number, and the place of a refusal above it
abbrev pub returned : ℕ → ℕ → ℕ
returned number place = number + 256 * place

-- the number and the place that a program takes out of it
abbrev pub number_in : ℕ → ℕ
number_in value = value % 256

abbrev pub place_in : ℕ → ℕ
place_in value = value / 256

-- what comes back of an answer: 0, or its refusal
abbrev pub returned_of : {A : Type 0} → Answer A → ℕ
returned_of (got a next) = 0
returned_of (refused number place) = returned number place

-- a lent answer after a call: written from its front on by an accepted call, else as it was
abbrev pub answered : ℕ → List ℕ → List ℕ → List ℕ
answered number bytes old = pick (eqb number 0) (over old 0 bytes) old
