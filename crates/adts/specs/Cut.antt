-- Bits cut out of bytes: put from bit 0 on, the last byte filled up with zero bits.
use Rattle.std.specs.Prelude.{ℕ, zero, suc, ◌+◌, List, [], ◌∷◌, ◌++◌}
use Rattle.bits.specs.Bits.{bit_at}
use Rattle.bits.specs.Pieces.{Piece, piece}
use Rattle.bits.specs.Packed.{packed}

-- the n bits from a place, a piece each
unfoldable pub each_bit : List ℕ → ℕ → ℕ → List Piece
each_bit s at zero = []
each_bit s at (suc n) = each_bit s at n ++ piece (bit_at s (at + n)) 1 ∷ []

-- the n bits from a place, as bytes
unfoldable pub cut_out : List ℕ → ℕ → ℕ → List ℕ
cut_out s at n = packed (each_bit s at n)
