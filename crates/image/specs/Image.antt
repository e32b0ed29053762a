-- The tag image: big-endian pairs of bytes, the payload count, the sampling index and the offsets; then the payloads.
use Rattle.std.specs.Prelude.{ℕ, zero, suc, ◌+◌, ◌*◌, ◌%◌, ◌≤◌, ◌≡◌, List, [], ◌∷◌, Bool, true, ◌&&◌, leb, ltb, eqb, length, get_or}
use Rattle.bits.specs.Payload.{range}
use Rattle.bits.specs.Calls.{◌or◌, first_refusal}
use Rattle.bits.specs.Sampling.{known_index}
use Rattle.image.specs.declared.Header.{Header}
use Rattle.image.specs.declared.Part.{Part}

-- the pair of bytes at a place
unfoldable pub pair_at : List ℕ → ℕ → ℕ
pair_at s i = get_or s i 0 * 256 + get_or s (i + 1) 0

-- the payload count n, the sampling index, and n + 1 offsets
abbrev pub count_of : List ℕ → ℕ
count_of s = pair_at s 0

abbrev pub index_of : List ℕ → ℕ
index_of s = pair_at s 2

abbrev pub offset_of : List ℕ → ℕ → ℕ
offset_of s k = pair_at s (2 * k + 4)

-- m offsets from the k-th on are each followed by one that is not before it
unfoldable pub rising : List ℕ → ℕ → ℕ → Bool
rising s k zero = true
rising s k (suc m) = leb (offset_of s k) (offset_of s (k + 1)) && rising s (k + 1) m

-- at most 65,535 bytes; the count even and at most 1,024; the pairs all there; the first offset 6 + 2n; offsets never
-- fall; the last equals the bytes read
unfoldable pub sound_image : List ℕ → Bool
sound_image s =
    leb (length s) 65535 && leb 6 (length s) && eqb (count_of s % 2) 0 && leb (count_of s) 1024 && leb (2 * count_of s + 6) (length s)
    && eqb (offset_of s 0) (2 * count_of s + 6) && rising s 0 (count_of s) && eqb (offset_of s (count_of s)) (length s)

abbrev pub refused_header : ℕ → Header
refused_header n = record { number = n; count = 0; index = 0 }

-- what the header says
unfoldable pub header_of : List ℕ → Header
header_of s =
    first_refusal (sound_image s or 5 ∷ known_index (index_of s) or 3 ∷ []) refused_header
    (record { number = 0; count = count_of s; index = index_of s })

-- the same for a lent output of some room, of which each payload takes so much: the image, and whether its payloads fit, are judged before
-- the rest of the header, which is the index
unfoldable pub header_for : ℕ → List ℕ → ℕ → Header
header_for each s room = first_refusal (sound_image s or 5 ∷ leb (each * count_of s) room or 2 ∷ []) refused_header (header_of s)

abbrev pub refused_part : ℕ → Part
refused_part n = record { number = n; start = 0; end = 0 }

-- where the k-th payload stands, of an image whose header says this: the header's refusal; 1 where there is no such payload
abbrev pub part_in : Header → List ℕ → ℕ → Part
part_in h s k =
    first_refusal (eqb h.number 0 or h.number ∷ ltb k h.count or 1 ∷ []) refused_part
    (record { number = 0; start = offset_of s k; end = offset_of s (k + 1) })

unfoldable pub part_of : List ℕ → ℕ → Part
part_of s k = part_in (header_of s) s k

-- the bytes of the k-th payload
abbrev pub bytes_of : List ℕ → ℕ → List ℕ
bytes_of s k = range s (offset_of s k) (offset_of s (k + 1))

-- what is promised of a header, and of a payload's part: it lies in the image, whose offsets are pairs of bytes
abbrev pub HeaderPromise : List ℕ → Header → Type 0
HeaderPromise image r = r ≡ header_of image

abbrev pub PartPromise : List ℕ → ℕ → Part → Type 0
PartPromise image k r = (r ≡ part_of image k) × (r.start ≤ r.end) × (r.end ≤ length image) × (r.end ≤ 65535)
