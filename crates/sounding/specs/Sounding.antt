-- How many lines of a channel stream sound.
use Rattle.std.specs.Prelude.{ℕ, ◌+◌, List, [], ◌∷◌, eqb, ℤ, nat_abs}
use Rattle.bits.specs.Reader.{pick}

-- how many lines are not 0
unfoldable pub sounding : List ℤ → ℕ
sounding [] = 0
sounding (x ∷ xs) = pick (eqb (nat_abs x) 0) (sounding xs) (sounding xs + 1)
