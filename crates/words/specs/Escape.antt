-- The escape of book 11: N ones, a zero, N + 4 bits.
use Rattle.std.specs.Prelude.{ℕ, zero, suc, ◌+◌, ◌-◌, ◌^◌, List, [], ◌∷◌, ◌++◌, eqb, ltb}
use Rattle.bits.specs.Reader.{Reader, give, refuse, pick, ◌>>=◌}
use Rattle.bits.specs.Field.{field}
use Rattle.bits.specs.Places.{one_field}
use Rattle.bits.specs.Pieces.{Piece, piece}

-- how many ones stand before the first zero, where n are there and room is for k more: one too many is 26 at once
unfoldable pub ones : ℕ → ℕ → Reader ℕ
ones zero n = refuse 26
ones (suc k) n = do
  one ← field 1
  pick (eqb one 1) (ones k (n + 1)) (give n)

-- the magnitude that N ones and the number after them are
unfoldable pub magnitude : ℕ → ℕ → ℕ
magnitude n v = 2 ^ (n + 4) + v

-- one field; the ninth one is refused
unfoldable pub escape : Reader ℕ
escape = one_field (do
  n ← ones 9 0
  v ← field (n + 4)
  give (magnitude n v))

-- the ones of a magnitude, of which n are there and k more may be: it has N + 5 binary digits
unfoldable pub ones_from : ℕ → ℕ → ℕ → ℕ
ones_from zero n m = n
ones_from (suc k) n m = pick (ltb m (2 ^ (n + 5))) n (ones_from k (n + 1) m)

-- N ones and a zero
abbrev pub spell_ones : ℕ → List Piece
spell_ones zero = piece 0 1 ∷ []
spell_ones (suc n) = piece 1 1 ∷ spell_ones n

-- the spelling of a magnitude with N ones
abbrev pub spell_with : ℕ → ℕ → List Piece
spell_with n m = spell_ones n ++ piece (m - 2 ^ (n + 4)) (n + 4) ∷ []

unfoldable pub spell_escape : ℕ → List Piece
spell_escape m = spell_with (ones_from 9 0 m) m
