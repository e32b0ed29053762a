-- Loops of readers.
use Rattle.std.specs.Prelude.{ℕ, zero, suc, ◌+◌, ◌-◌, Bool, List, [], ◌∷◌, ◌++◌}
use Rattle.bits.specs.Reader.{Reader, give, pick, ◌>>=◌}

-- for i from a first number on, n times, each from the state that the one before left
unfoldable pub counted : {S : Type 0} → ℕ → ℕ → (ℕ → S → Reader S) → S → Reader S
counted i zero f x = give x
counted i (suc n) f x = f i x >>= counted (i + 1) n f

-- one more at the end of a list, read by what the list holds
abbrev pub more : {A : Type 0} → (List A → Reader A) → ℕ → List A → Reader (List A)
more f i xs = f xs >>= λ x. give (xs ++ x ∷ [])

-- n readings in a list, each of which goes by those before it
unfoldable pub listed : {A : Type 0} → ℕ → (List A → Reader A) → Reader (List A)
listed n f = counted 0 n (more f) []

-- while a test of the state holds, n times at most, each from the state that the one before left
unfoldable pub turns : {S : Type 0} → ℕ → (S → Bool) → (S → Reader S) → S → Reader S
turns zero on f x = give x
turns (suc n) on f x = pick (on x) (f x >>= turns n on f) (give x)

-- while a test of the state holds. Each turn takes a bit at least, so that no loop has more turns than there are bits
unfoldable pub while : {S : Type 0} → (S → Bool) → (S → Reader S) → S → Reader S
while on f x s at end = turns (suc (end - at)) on f x s at end
