-- An image's header, and the part that a payload is, each answered as two words; and the parts of all its payloads.
use Rattle.std.specs.Prelude.{ℕ, zero, suc, ◌≡◌, List, [], ◌∷◌, ◌++◌, leb, length}
use Rattle.image.specs.Image.{header_of, header_for, part_of}
use Rattle.bits.specs.Bytes.{word_of}
use Rattle.bits.specs.Calls.{◌or◌, first_refusal, answered}

-- whether the answer fits is judged before the header
unfoldable pub image_number : List ℕ → ℕ → ℕ
image_number image room = first_refusal (leb 8 room or 2 ∷ []) (λ n. n) (header_of image).number

-- the payload count and the sampling index
unfoldable pub image_answer_after : List ℕ → List ℕ → List ℕ
image_answer_after image answer =
    answered (image_number image (length answer)) (word_of (header_of image).count ++ word_of (header_of image).index) answer

-- whether the answer fits is judged before the part
unfoldable pub part_number : List ℕ → ℕ → ℕ → ℕ
part_number image k room = first_refusal (leb 8 room or 2 ∷ []) (λ n. n) (part_of image k).number

-- where the payload starts and where it ends
abbrev pub part_bytes : List ℕ → ℕ → List ℕ
part_bytes image k = word_of (part_of image k).start ++ word_of (part_of image k).end

unfoldable pub part_answer_after : List ℕ → ℕ → List ℕ → List ℕ
part_answer_after image k answer = answered (part_number image k (length answer)) (part_bytes image k) answer

-- the same of the first k payloads
unfoldable pub parts_bytes : List ℕ → ℕ → List ℕ
parts_bytes image zero = []
parts_bytes image (suc k) = parts_bytes image k ++ part_bytes image k

-- the image, and whether the answer has eight bytes for each payload, are judged before the index
abbrev pub parts_number : List ℕ → ℕ → ℕ
parts_number image room = (header_for 8 image room).number

-- where each payload starts and where it ends
unfoldable pub parts_answer_after : List ℕ → List ℕ → List ℕ
parts_answer_after image answer = answered (parts_number image (length answer)) (parts_bytes image (header_of image).count) answer

-- what is promised of each: the number that comes back, and the lent answer afterwards
abbrev pub ReadHeaderPromise : List ℕ → List ℕ → ℕ → List ℕ → Type 0
ReadHeaderPromise image answer r after = (r ≡ image_number image (length answer)) × (after ≡ image_answer_after image answer)

abbrev pub FindPartPromise : List ℕ → ℕ → List ℕ → ℕ → List ℕ → Type 0
FindPartPromise image k answer r after = (r ≡ part_number image k (length answer)) × (after ≡ part_answer_after image k answer)

abbrev pub FindPartsPromise : List ℕ → List ℕ → ℕ → List ℕ → Type 0
FindPartsPromise image answer r after = (r ≡ parts_number image (length answer)) × (after ≡ parts_answer_after image answer)
