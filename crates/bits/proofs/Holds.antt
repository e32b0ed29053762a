-- What bits hold: the pieces of a spelling, one after another.
-- Assumes nothing.
use Prim.Native.Nat.{ℕ, ◌+◌}
use mathlib.Core.Path.{◌≡◌}
use mathlib.Core.List.{List, [], ◌∷◌}
use Rattle.bits.specs.Bits.{bits_from}
use Rattle.bits.specs.Pieces.{Piece}

-- the bits from a place on are these pieces
abbrev pub Holds : List ℕ → ℕ → List Piece → Type 0
Holds s at [] = Unit
Holds s at (p ∷ ps) = (bits_from s at p.size ≡ p.value) × Holds s (at + p.size) ps
