-- The sampling indices that streams have.
use Rattle.std.specs.Prelude.{ℕ, Bool, ◌||◌, eqb}

-- 48,000, 44,100, 24,000 and 22,050 samples a second
abbrev pub known_index : ℕ → Bool
known_index index = eqb index 3 || eqb index 4 || eqb index 6 || eqb index 7
