-- Bands: the first line of each, and the end of the last.
use Rattle.std.specs.Prelude.{ℕ, suc, ◌-◌, List, [], ◌∷◌, Bool, leb, length, get_or}
use Rattle.bits.specs.Reader.{pick}

-- indices 3 and 4, long windows: 49 bands
unfoldable pub long34 : List ℕ
long34 =
    0 ∷ 4 ∷ 8 ∷ 12 ∷ 16 ∷ 20 ∷ 24 ∷ 28 ∷ 32 ∷ 36 ∷ 40 ∷ 48 ∷ 56 ∷ 64 ∷ 72 ∷ 80 ∷ 88 ∷ 96 ∷ 108 ∷ 120 ∷ 132 ∷ 144 ∷ 160 ∷ 176 ∷ 196 ∷ 216 ∷
    240 ∷ 264 ∷ 292 ∷ 320 ∷ 352 ∷ 384 ∷ 416 ∷ 448 ∷ 480 ∷ 512 ∷ 544 ∷ 576 ∷ 608 ∷ 640 ∷ 672 ∷ 704 ∷ 736 ∷ 768 ∷ 800 ∷ 832 ∷ 864 ∷ 896 ∷
    928 ∷ 1024 ∷ []

-- indices 3 and 4, short windows: 14 bands
unfoldable pub short34 : List ℕ
short34 = 0 ∷ 4 ∷ 8 ∷ 12 ∷ 16 ∷ 20 ∷ 28 ∷ 36 ∷ 44 ∷ 56 ∷ 68 ∷ 80 ∷ 96 ∷ 112 ∷ 128 ∷ []

-- indices 6 and 7, long windows: 47 bands
unfoldable pub long67 : List ℕ
long67 =
    0 ∷ 4 ∷ 8 ∷ 12 ∷ 16 ∷ 20 ∷ 24 ∷ 28 ∷ 32 ∷ 36 ∷ 40 ∷ 44 ∷ 52 ∷ 60 ∷ 68 ∷ 76 ∷ 84 ∷ 92 ∷ 100 ∷ 108 ∷ 116 ∷ 124 ∷ 136 ∷ 148 ∷ 160 ∷ 172 ∷
    188 ∷ 204 ∷ 220 ∷ 240 ∷ 260 ∷ 284 ∷ 308 ∷ 336 ∷ 364 ∷ 396 ∷ 432 ∷ 468 ∷ 508 ∷ 552 ∷ 600 ∷ 652 ∷ 704 ∷ 768 ∷ 832 ∷ 896 ∷ 960 ∷ 1024 ∷ []

-- indices 6 and 7, short windows: 15 bands
unfoldable pub short67 : List ℕ
short67 = 0 ∷ 4 ∷ 8 ∷ 12 ∷ 16 ∷ 20 ∷ 24 ∷ 28 ∷ 36 ∷ 44 ∷ 52 ∷ 64 ∷ 76 ∷ 92 ∷ 108 ∷ 128 ∷ []

-- the bands of a sampling index, 3 or 4, else 6 or 7, for short or long windows
unfoldable pub bands : ℕ → Bool → List ℕ
bands index short = pick short (pick (leb index 4) short34 short67) (pick (leb index 4) long34 long67)

-- how many bands there are
unfoldable pub band_count : ℕ → Bool → ℕ
band_count index short = length (bands index short) - 1

-- the first line of a band
unfoldable pub first_line : List ℕ → ℕ → ℕ
first_line edges b = get_or edges b 0

-- the lines that a band has
unfoldable pub band_width : List ℕ → ℕ → ℕ
band_width edges b = get_or edges (suc b) 0 - get_or edges b 0
