-- A channel stream wrapped as one frame: free bits and the tag are 0, the fullness is 2047.
use Rattle.std.specs.Prelude.{ℕ, ◌+◌, List, [], ◌∷◌, ◌++◌}
use Rattle.bits.specs.Pieces.{Piece, piece}
use Rattle.bits.specs.Packed.{bytes_for, packed}
use Rattle.adts.specs.Cut.{each_bit}

-- syncword, version, layer, protection_absent, profile
unfoldable pub spell_kind : List Piece
spell_kind = piece 4095 12 ∷ piece 0 1 ∷ piece 0 2 ∷ piece 1 1 ∷ piece 1 2 ∷ []

-- sampling index, private bit, channels, original, home
unfoldable pub spell_voice : ℕ → List Piece
spell_voice index = piece index 4 ∷ piece 0 1 ∷ piece 1 3 ∷ piece 0 1 ∷ piece 0 1 ∷ []

-- copyright id, copyright start, the frame's length, fullness, raw blocks less one
unfoldable pub spell_variable_half : ℕ → List Piece
spell_variable_half size = piece 0 1 ∷ piece 0 1 ∷ piece size 13 ∷ piece 2047 11 ∷ piece 0 2 ∷ []

-- the single channel element of the first n bits of some bytes, and the end element
unfoldable pub spell_block : List ℕ → ℕ → List Piece
spell_block bytes n = piece 0 3 ∷ piece 0 4 ∷ each_bit bytes 0 n ++ piece 7 3 ∷ []

-- how many bytes the frame of a stream of n bits has
abbrev pub frame_length : ℕ → ℕ
frame_length n = bytes_for (56 + 3 + 4 + n + 3)

-- the frame of the stream that the first n bits of some bytes are
unfoldable pub wrapping : ℕ → List ℕ → ℕ → List ℕ
wrapping index bytes n = packed (spell_kind ++ spell_voice index ++ spell_variable_half (frame_length n) ++ spell_block bytes n)
