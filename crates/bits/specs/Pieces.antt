-- What a value is spelled as: pieces, each a number of so many bits, one after another.
use Rattle.std.specs.Prelude.{ℕ, ◌+◌, List, [], ◌∷◌}

pub record Piece : Type 0 where
  pub value : ℕ
  pub size : ℕ

abbrev pub piece : ℕ → ℕ → Piece
piece v n = record { value = v; size = n }

-- how many bits
abbrev pub total : List Piece → ℕ
total [] = 0
total (p ∷ ps) = p.size + total ps
