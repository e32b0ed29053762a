-- What is said of a damaged run.
use Rattle.std.specs.Prelude.{ℕ, ◌≡◌, List, [], ◌∷◌, Bool, true, false, ◌&&◌, leb}
use Rattle.bits.specs.Reader.{got}
use Rattle.runs.specs.Machine.{Machine, Outcome, answered, refusal, reported, Turn}

-- what is asked of a machine: a restart is read the same from every state, and leaves the same state; a refusal loses
-- step; and soundness is kept
pub record Steady {S C : Type 0} (M : Machine S C) : Type 0 where
  pub same_read : (st st' : S) (s : List ℕ) (c : C) (n : ℕ) → M.read st s ≡ got c n → M.restart c ≡ true → M.read st' s ≡ got c n
  pub same-carried : (st st' : S) (c : C) → M.restart c ≡ true → M.carried st c ≡ M.carried st' c
  pub out-of-step : (st : S) → M.in_step (M.lost st) ≡ false
  pub fresh-sound : M.sound M.fresh ≡ true
  pub lost-sound : (st : S) → M.sound st ≡ true → M.sound (M.lost st) ≡ true
  pub carried-sound : (st : S) (s : List ℕ) (c : C) (n : ℕ) → M.sound st ≡ true → M.read st s ≡ got c n
      → M.sound (M.carried st c) ≡ true

-- a turn that answers a restart
abbrev pub Restarting : {S C : Type 0} → Machine S C → Turn S C → Type 0
Restarting {S} {C} M t = (c : C) × (n : ℕ) × (t.outcome ≡ answered c n) × (M.restart c ≡ true)

-- none of the turns answers a restart
abbrev pub NoRestart : {S C : Type 0} → Machine S C → List (Turn S C) → Type 0
NoRestart M [] = Unit
NoRestart M (t ∷ ts) = (Restarting M t → ⊥) × NoRestart M ts

abbrev pub is_answer : {C : Type 0} → Outcome C → Bool
is_answer (answered c n) = true
is_answer (refusal n place) = false
is_answer reported = false

-- every turn is answered, or none is
abbrev pub Answered : {S C : Type 0} → List (Turn S C) → Type 0
Answered [] = Unit
Answered (t ∷ ts) = (is_answer t.outcome ≡ true) × Answered ts

abbrev pub Silent : {S C : Type 0} → List (Turn S C) → Type 0
Silent [] = Unit
Silent (t ∷ ts) = (is_answer t.outcome ≡ false) × Silent ts

-- refused with 10 to 35, or reported missing
abbrev pub is_lost : {C : Type 0} → Outcome C → Bool
is_lost (answered c n) = false
is_lost (refusal n place) = leb 10 n && leb n 35
is_lost reported = true

abbrev pub AllLost : {S C : Type 0} → List (Turn S C) → Type 0
AllLost [] = Unit
AllLost (t ∷ ts) = (is_lost t.outcome ≡ true) × AllLost ts
