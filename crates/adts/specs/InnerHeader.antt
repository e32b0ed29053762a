-- For contracts of inner functions only: the fields of a whole header, judged at their places.
use Rattle.std.specs.Prelude.{ℕ, List, eqb}
use Rattle.bits.specs.Bits.{bits_from}
use Rattle.bits.specs.Reader.{pick}
use Rattle.bits.specs.Sampling.{known_index}
use Rattle.adts.specs.Header.{Header}

-- the sampling index
abbrev pub index_in : List ℕ → ℕ
index_in s = bits_from s 18 4

-- the frame's length in bytes
abbrev pub length_in : List ℕ → ℕ
length_in s = bits_from s 30 13

-- what is kept of a header
abbrev pub kept : List ℕ → Header
kept s = record { index = index_in s; length = length_in s }

-- what is judged after the sampling index: one channel, one raw block
abbrev pub late_refusal : List ℕ → ℕ
late_refusal s = pick (eqb (bits_from s 23 3) 1) (pick (eqb (bits_from s 54 2) 0) 0 51) 51

-- what is judged from the layer to the sampling index
abbrev pub early_refusal : List ℕ → ℕ
early_refusal s =
    pick (eqb (bits_from s 13 2) 0)
    (pick (eqb (bits_from s 15 1) 1) (pick (eqb (bits_from s 16 2) 1) (pick (known_index (index_in s)) (late_refusal s) 51) 51) 51)
    51

-- the number of the first field at fault, or 0
unfoldable pub header_refusal : List ℕ → ℕ
header_refusal s = pick (eqb (bits_from s 0 12) 4095) (early_refusal s) 50
