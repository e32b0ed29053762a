-- The first of some refusals, by its number; what is known where a call was not refused: the range lies in the buffer, and the answer has
-- room; and that what comes back to a program in C has both the number and the place.
-- Assumes nothing.
use Prim.Native.Nat.{ℕ, zero, suc, ◌<◌, ◌≤◌}
use mathlib.Core.Path.{◌≡◌, refl}
use mathlib.Core.Bool.{true, false}
use mathlib.Core.List.{List, [], ◌∷◌}
use mathlib.Core.Logic.{◌≢◌}
use native.Mathlib.Omega.{arith}
use borrow.Author.Tests.{leb-true}
use lib.Dec.{leb}
use Rattle.bits.specs.Payload.{in_buffer}
use Rattle.bits.specs.Calls.{Test, ◌or◌, first_refusal, first_number, call_tests, returned, number_in, place_in}
use Rattle.bits.proofs.Bools.{and_both}

-- a call that is refused is refused with the number
pub first-refused : {A : Type 0} (tests : List Test) (refusal : ℕ → A) (answer : A) → first_number tests ≢ 0
    → first_refusal tests refusal answer ≡ refusal (first_number tests)
first-refused [] refusal answer h = absurd (h refl)
first-refused (true or n ∷ tests) refusal answer h = first-refused tests refusal answer h
first-refused (false or n ∷ tests) refusal answer h = refl

-- no test has the number of a success
abbrev pub Telling : List Test → Type 0
Telling [] = Unit
Telling (b or zero ∷ tests) = ⊥
Telling (b or suc n ∷ tests) = Telling tests

-- every test is passed
abbrev pub Passed : List Test → Type 0
Passed [] = Unit
Passed (b or n ∷ tests) = (b ≡ true) × Passed tests

pub all-passed : (tests : List Test) → Telling tests → first_number tests ≡ 0 → Passed tests
all-passed [] t e = tt
all-passed (b or zero ∷ tests) t e = absurd t
all-passed (true or suc n ∷ tests) t e = (refl, all-passed tests t e)
all-passed (false or suc n ∷ tests) t e = absurd (omega arith)

-- a call that passes every test is answered
pub first-passed : {A : Type 0} (tests : List Test) (refusal : ℕ → A) (answer : A) → Telling tests → first_number tests ≡ 0
    → first_refusal tests refusal answer ≡ answer
first-passed [] refusal answer t e = refl
first-passed (b or zero ∷ tests) refusal answer t e = absurd t
first-passed (true or suc n ∷ tests) refusal answer t e = first-passed tests refusal answer t e
first-passed (false or suc n ∷ tests) refusal answer t e = absurd (omega arith)

-- a range that lies in a buffer
pub range-in : (size start end : ℕ) → in_buffer start end size ≡ true → (start ≤ end) × (end ≤ size)
range-in size start end e =
    let p = and_both (leb start end) (leb end size) e in
    (leb-true start end p.0, leb-true end size p.1)

module _ (size start end need room : ℕ) (e : first_number (call_tests (in_buffer start end size) need room) ≡ 0) where
  pub call-room : need ≤ room
  call-room = leb-true need room (all-passed (call_tests (in_buffer start end size) need room) tt e).1.0

  pub call-range : (start ≤ end) × (end ≤ size)
  call-range = range-in size start end (all-passed (call_tests (in_buffer start end size) need room) tt e).0

-- nothing is lost in what comes back: a number below 256, and whatever place
module _ (number place : ℕ) (h : number < 256) where
  pub number-kept : number_in (returned number place) ≡ number
  number-kept = omega arith

  pub place_kept : place_in (returned number place) ≡ place
  place_kept = omega arith
