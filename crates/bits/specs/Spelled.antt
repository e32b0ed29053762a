-- Spellings of lists and of bits that are left over.
use Rattle.std.specs.Prelude.{List, [], ◌∷◌, ◌++◌}
use Rattle.bits.specs.Pieces.{Piece, piece}
use Rattle.bits.specs.Inside.{Fill}

-- the spelling of a list, each element by those before it
abbrev pub spell_each : {A : Type 0} → (List A → A → List Piece) → List A → List A → List Piece
spell_each w done [] = []
spell_each w done (x ∷ xs) = w done x ++ spell_each w (done ++ x ∷ []) xs

-- bits that are left over are one piece
abbrev pub spell_fill : Fill → List Piece
spell_fill x = piece x.value x.count ∷ []
