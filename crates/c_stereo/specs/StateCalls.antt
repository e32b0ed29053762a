-- A fresh state, and a payload reported missing.
use Rattle.std.specs.Prelude.{ℕ, ◌≡◌, List, [], ◌∷◌, leb, length, set}
use Rattle.stereo.specs.State.{fresh}
use Rattle.c_layout.specs.StateBytes.{state_bytes, sound_bytes}
use Rattle.bits.specs.Calls.{◌or◌, first_refusal, first_number, answered}

-- 2 where a state does not fit
abbrev pub fresh_number : List ℕ → ℕ
fresh_number s = first_number (leb 146 (length s) or 2 ∷ [])

abbrev pub fresh_after : List ℕ → List ℕ
fresh_after s = answered (fresh_number s) (state_bytes fresh) s

-- out of step, and no other byte touched
abbrev pub lost_bytes : List ℕ → List ℕ
lost_bytes s = set s 5 0

-- refused only with 4
abbrev pub missing_number : List ℕ → ℕ
missing_number s = first_number (sound_bytes s or 4 ∷ [])

abbrev pub missing_after : List ℕ → List ℕ
missing_after s = first_refusal (sound_bytes s or 4 ∷ []) (λ n. s) (lost_bytes s)

-- what is promised of both: the number that comes back, and the lent state afterwards
abbrev pub FreshStatePromise : List ℕ → ℕ → List ℕ → Type 0
FreshStatePromise s r after = (r ≡ fresh_number s) × (after ≡ fresh_after s)

abbrev pub ReportMissingPromise : List ℕ → ℕ → List ℕ → Type 0
ReportMissingPromise s r after = (r ≡ missing_number s) × (after ≡ missing_after s)
