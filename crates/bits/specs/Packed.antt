-- Pieces put into bytes, and the bytes that they make: the last is filled up with zero bits.
use Rattle.std.specs.Prelude.{ℕ, zero, suc, ◌+◌, ◌*◌, ◌/◌, ◌%◌, ◌^◌, ◌-◌, List, [], ◌∷◌, get_or, set, replicate}
use Rattle.bits.specs.Pieces.{Piece, total}

-- a number with the bit of weight 2 ^ k replaced
unfoldable pub replaced : ℕ → ℕ → ℕ → ℕ
replaced x k b = x - x / 2 ^ k % 2 * 2 ^ k + b * 2 ^ k

-- bytes with the bit at a place replaced
abbrev pub set_bit : List ℕ → ℕ → ℕ → List ℕ
set_bit s i b = set s (i / 8) (replaced (get_or s (i / 8) 0) (7 - i % 8) b)

-- bytes with the low n bits of a number put at a place
unfoldable pub put : List ℕ → ℕ → ℕ → ℕ → List ℕ
put s at v zero = s
put s at v (suc n) = set_bit (put s at (v / 2) n) (at + n) (v % 2)

-- pieces put from a place on
unfoldable pub put_all : List ℕ → ℕ → List Piece → List ℕ
put_all s at [] = s
put_all s at (p ∷ ps) = put_all (put s at p.value p.size) (at + p.size) ps

-- how many bytes so many bits take
abbrev pub bytes_for : ℕ → ℕ
bytes_for n = (n + 7) / 8

-- the bytes of a spelling
unfoldable pub packed : List Piece → List ℕ
packed ps = put_all (replicate (bytes_for (total ps)) 0) 0 ps
