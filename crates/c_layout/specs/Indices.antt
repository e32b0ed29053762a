-- Indices as bytes of two's complement.
use Rattle.std.specs.Prelude.{ℕ, List, ◌∷◌, map, ℤ, take, drop}
use Rattle.std.specs.Int.{w8}
use Rattle.std.proofs.Common.{of_z, to_z}
use Rattle.bits.specs.Bytes.{byte_of}

-- an index is a byte of two's complement
abbrev pub index_bytes : List ℤ → List ℕ
index_bytes xs = map (of_z w8) xs

-- the 34 indices from a place on
unfoldable pub indices_at : List ℕ → ℕ → List ℤ
indices_at s at = map (to_z w8) (take 34 (drop at s))

-- a number and 34 indices: 35 bytes
unfoldable pub numbered : ℕ → List ℤ → List ℕ
numbered n xs = byte_of n ∷ index_bytes xs
