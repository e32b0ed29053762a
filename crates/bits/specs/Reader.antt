-- Readers. A reader takes the bytes, a start place and an end place, in bits, and answers a value with the next place, or a refusal's
-- number with the place of the field that it judges.
use Rattle.std.specs.Prelude.{ℕ, List, Bool, true, false}

infixl 10 ◌>>=◌
pub data Answer (A : Type 0) : Type 0 where
  got : A → ℕ → Answer A
  refused : ℕ → ℕ → Answer A

abbrev pub Reader : Type 0 → Type 0
Reader A = List ℕ → ℕ → ℕ → Answer A

-- the first of two where a test holds, else the second
abbrev pub pick : {A : Type 0} → Bool → A → A → A
pick true a b = a
pick false a b = b

-- a value, and nothing is read
abbrev pub give : {A : Type 0} → A → Reader A
give a s at end = got a at

-- a refusal at the place at hand
abbrev pub refuse : {A : Type 0} → ℕ → Reader A
refuse n s at end = refused n at

-- the rest of a reading, after an answer
abbrev pub after : {A B : Type 0} → Answer A → (A → Reader B) → List ℕ → ℕ → Answer B
after (got a next) k s end = k a s next end
after (refused n place) k s end = refused n place

-- one reader after another: the first refusal stands
abbrev pub ◌>>=◌ : {A B : Type 0} → Reader A → (A → Reader B) → Reader B
◌>>=◌ r k s at end = after (r s at end) k s end

-- an answer that has to pass a test, or is refused at the place where its field began
abbrev pub tested : {A : Type 0} → Answer A → ℕ → (A → Bool) → ℕ → Answer A
tested (got a next) n ok at = pick (ok a) (got a next) (refused n at)
tested (refused m place) n ok at = refused m place

-- a tested reader: n where the test fails
abbrev pub expecting : {A : Type 0} → ℕ → (A → Bool) → Reader A → Reader A
expecting n ok r s at end = tested (r s at end) n ok at
