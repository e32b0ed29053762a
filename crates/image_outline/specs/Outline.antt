-- The outline of an image: of each payload, in order, five numbers. An accepted channel stream has 0, 0, its gain, how many
-- of its lines are not 0, and its bits; an accepted stereo payload has 0, 0, its envelopes, 0, and its bits; a refused
-- payload its number, its place, and zeros.
use Rattle.std.specs.Prelude.{ℕ, zero, suc, ◌≡◌, List, [], ◌∷◌, ◌++◌, eqb, length}
use Rattle.bits.specs.Reader.{Answer, got, refused, pick}
use Rattle.channel.specs.Stream.{Stream}
use Rattle.sounding.specs.Sounding.{sounding}
use Rattle.stereo_reader.specs.declared.Reading.{Reading}
use Rattle.stereo.specs.declared.State.{State}
use Rattle.image.specs.Image.{header_of, header_for, bytes_of}
use Rattle.image.specs.declared.Header.{Header}
use Rattle.bits.specs.Bytes.{over}
use Rattle.image_outline.specs.Answers.{is_even, channel_in, stereo_in, state_before}

-- the numbers of a channel stream
abbrev pub channel_row : Answer Stream → List ℕ
channel_row (got x bits) = 0 ∷ 0 ∷ x.head.gain ∷ sounding x.coded.lines ∷ bits ∷ []
channel_row (refused n place) = n ∷ place ∷ 0 ∷ 0 ∷ 0 ∷ []

-- the numbers of a stereo payload; a refusal has no contents
abbrev pub stereo_row : Reading → List ℕ
stereo_row r = r.number ∷ r.place ∷ r.contents.frame.envelopes ∷ 0 ∷ r.bits ∷ []

-- the numbers of the k-th payload, which fills a part, from the state before it
unfoldable pub row_from : State → ℕ → ℕ → List ℕ → List ℕ
row_from st index k part = pick (is_even k) (channel_row (channel_in index part)) (stereo_row (stereo_in st part))

unfoldable pub row_of : List ℕ → ℕ → List ℕ
row_of s k = row_from (state_before s k) (header_of s).index k (bytes_of s k)

-- the rows of the first k payloads
unfoldable pub rows_of : List ℕ → ℕ → List ℕ
rows_of s zero = []
rows_of s (suc k) = rows_of s k ++ row_of s k

-- the image, and whether the rows fit, are judged before the index
abbrev pub outline_of : List ℕ → ℕ → Header
outline_of s room = header_for 5 s room

-- the lent rows afterwards: those of each payload from the front on, or what they held
unfoldable pub rows_after : List ℕ → List ℕ → List ℕ
rows_after s rows = pick (eqb (outline_of s (length rows)).number 0) (over rows 0 (rows_of s (header_of s).count)) rows

-- what is promised of the outline: the header, and the lent rows afterwards
abbrev pub OutlinePromise : List ℕ → List ℕ → Header → List ℕ → Type 0
OutlinePromise image rows r after = (r ≡ outline_of image (length rows)) × (after ≡ rows_after image rows)
