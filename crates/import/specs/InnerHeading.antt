-- For contracts of inner functions only: the header of the image of some channel streams, each followed by a stereo payload of one byte.
use Rattle.std.specs.Prelude.{ℕ, zero, suc, ◌+◌, ◌*◌, ◌/◌, List, [], ◌∷◌, ◌++◌, get_or}
use Rattle.bits.specs.Bytes.{byte_of}

-- a pair of bytes, the most significant first
unfoldable pub pair_of : ℕ → List ℕ
pair_of x = byte_of (x / 256) ∷ byte_of x ∷ []

-- where the k-th stream starts after the header, of streams that end there: the stereo payload before it has a byte
unfoldable pub start_of : List ℕ → ℕ → ℕ
start_of ends zero = 0
start_of ends (suc k) = get_or ends k 0 + 1

-- the offsets of the first k streams, and of the stereo payloads after them, behind a header of so many bytes
unfoldable pub offsets_of : ℕ → List ℕ → ℕ → List ℕ
offsets_of base ends zero = []
offsets_of base ends (suc k) = offsets_of base ends k ++ (pair_of (base + start_of ends k) ++ pair_of (base + get_or ends k 0))

-- how many bytes the header of k streams has
abbrev pub header_size : ℕ → ℕ
header_size k = 4 * k + 6

-- the payload count, the sampling index, the offsets, and the end of the last payload
unfoldable pub heading_of : ℕ → List ℕ → ℕ → List ℕ
heading_of index ends k =
    pair_of (2 * k) ++ pair_of index ++ offsets_of (header_size k) ends k ++ pair_of (header_size k + start_of ends k)
