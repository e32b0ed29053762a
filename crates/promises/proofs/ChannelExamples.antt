-- Streams and rules, computed: three streams of published and made files, whose numbers two decoders agree on, and examples of the
-- rules.
-- Assumes nothing.
use Prim.Native.Nat.{ℕ}
use mathlib.Core.Path.{◌≡◌, refl}
use mathlib.Core.List.{List, [], ◌∷◌}
use lib.IntN.{ℤ, pos, negsuc}
use Rattle.bits.specs.Lists.{padded}
use Rattle.bits.specs.Reader.{refused}
use Rattle.bits.specs.Payload.{whole}
use Rattle.channel_bands.specs.Grouping.{in_eight}
use Rattle.channel.specs.Stream.{stream}
use Rattle.channel.specs.Promise.{reading_of, lines_after, factors_after, books_after}
use Rattle.channel.specs.declared.Reading.{Reading}
use Rattle.channel.proofs.All.{all}

-- the bytes give this answer, these books, scale factors and lines
abbrev Gives : ℕ → List ℕ → Reading → List ℕ → List ℕ → List ℤ → Type 0
Gives index bytes reading books factors lines =
    (reading_of (whole (stream index) bytes) ≡ reading)
    × (books_after (whole (stream index) bytes) [] ≡ padded 120 0 books)
    × (factors_after (whole (stream index) bytes) [] ≡ padded 120 0 factors)
    × (lines_after (whole (stream index) bytes) [] ≡ padded 1024 (pos 0) lines)

-- max_sfb 49 stands at index 3: the sections are read, and run out
max_sfb_49 : whole (stream 3) (0 ∷ 12 ∷ 64 ∷ []) ≡ refused 10 23
unfolding all
max_sfb_49 = refl

max_sfb_50 : whole (stream 3) (0 ∷ 12 ∷ 128 ∷ []) ≡ refused 21 12
unfolding all
max_sfb_50 = refl

-- max_sfb 47 stands at index 6
max_sfb_47 : whole (stream 6) (0 ∷ 11 ∷ 192 ∷ []) ≡ refused 10 23
unfolding all
max_sfb_47 = refl

max_sfb_48 : whole (stream 6) (0 ∷ 12 ∷ 0 ∷ []) ≡ refused 21 12
unfolding all
max_sfb_48 = refl

-- no bytes, and a byte too many
empty : whole (stream 4) [] ≡ refused 10 0
unfolding all
empty = refl

too_long : whole (stream 4) (100 ∷ 0 ∷ 0 ∷ 0 ∷ []) ≡ refused 12 22
unfolding all
too_long = refl

-- the first payload of the listing
listing : Gives 4 (100 ∷ 0 ∷ 0 ∷ [])
    (record {
      number = 0;
      place = 0;
      gain = 100;
      sequence = 0;
      shape = 0;
      max_sfb = 0;
      group_count = 1;
      groups = in_eight (1 ∷ []);
      bits = 22;
    })
    []
    []
    []
unfolding all
listing = (refl, refl, refl, refl)

-- 26: nine ones of an escape; a pulse after the spectrum
nine_ones : whole (stream 3) (100 ∷ 0 ∷ 86 ∷ 16 ∷ 225 ∷ 63 ∷ 224 ∷ []) ≡ refused 26 42
unfolding all
nine_ones = refl

pulse_26 : whole (stream 3) (100 ∷ 0 ∷ 86 ∷ 20 ∷ 0 ∷ 34 ∷ 17 ∷ 255 ∷ 127 ∷ 255 ∷ 251 ∷ 255 ∷ 192 ∷ []) ≡ refused 26 38
unfolding all
pulse_26 = refl

-- 25: a start band and a line that are too high
start_25 : whole (stream 3) (100 ∷ 0 ∷ 86 ∷ 20 ∷ 196 ∷ []) ≡ refused 25 32
unfolding all
start_25 = refl

line_25 : whole (stream 3) (100 ∷ 0 ∷ 86 ∷ 23 ∷ 195 ∷ 255 ∷ 255 ∷ 255 ∷ 140 ∷ []) ≡ refused 25 65
unfolding all
line_25 = refl

-- short windows in groups of 1 and 7 (wpt-test-boxes-audio, frame 345)
short-windows : Gives 4
    (134 ∷ 77 ∷ 127 ∷ 122 ∷ 140 ∷ 38 ∷ 40 ∷ 136 ∷ 135 ∷ 194 ∷ 74 ∷ 10 ∷ 1 ∷ 27 ∷ 155 ∷ 34 ∷ 58 ∷ 217 ∷ 68 ∷ 176 ∷
    218 ∷ 114 ∷ 89 ∷ 22 ∷ 17 ∷ 83 ∷ 200 ∷ 169 ∷ 132 ∷ 97 ∷ 175 ∷ 233 ∷ 185 ∷ 64 ∷ 144 ∷ 5 ∷ 247 ∷ 238 ∷ 170 ∷ 198 ∷
    226 ∷ 63 ∷ 123 ∷ 141 ∷ 89 ∷ 146 ∷ 238 ∷ 183 ∷ 69 ∷ 209 ∷ 238 ∷ 113 ∷ 73 ∷ 165 ∷ 85 ∷ 141 ∷ 69 ∷ 126 ∷ 78 ∷ 217 ∷
    41 ∷ 255 ∷ 148 ∷ 87 ∷ 254 ∷ 46 ∷ 213 ∷ 243 ∷ 166 ∷ 129 ∷ 97 ∷ 248 ∷ 204 ∷ 0 ∷ [])
    (record {
      number = 0;
      place = 0;
      gain = 134;
      sequence = 2;
      shape = 0;
      max_sfb = 13;
      group_count = 2;
      groups = in_eight (1 ∷ 7 ∷
          []);
      bits = 586;
    })
    (11 ∷ 11 ∷ 11 ∷ 11 ∷ 11 ∷ 11 ∷ 10 ∷ 8 ∷ 8 ∷ 6 ∷ 4 ∷ 4 ∷ 2 ∷ [])
    (134 ∷ 134 ∷ 134 ∷ 133 ∷ 132 ∷ 133 ∷ 133 ∷ 133 ∷ 133 ∷ 133 ∷ 134 ∷ 134 ∷ 134 ∷ [])
    (pos 60 ∷ negsuc 113 ∷ pos 109 ∷ negsuc 41 ∷ negsuc 69 ∷ pos 103 ∷ negsuc 80 ∷ pos 28 ∷ pos 26 ∷ negsuc 30 ∷ pos 26 ∷
    negsuc 27 ∷ pos 35 ∷ negsuc 26 ∷ pos 15 ∷ negsuc 7 ∷ pos 5 ∷ pos 8 ∷ negsuc 15 ∷ pos 18 ∷ negsuc 12 ∷ pos 12 ∷ negsuc 10 ∷
    pos 7 ∷ pos 0 ∷ negsuc 4 ∷ pos 6 ∷ negsuc 6 ∷ pos 9 ∷ negsuc 8 ∷ pos 6 ∷ negsuc 3 ∷ pos 3 ∷ pos 1 ∷ negsuc 3 ∷ pos 6 ∷
    negsuc 4 ∷ pos 5 ∷ negsuc 4 ∷ pos 4 ∷ negsuc 1 ∷ negsuc 0 ∷ pos 2 ∷ negsuc 2 ∷ pos 5 ∷ negsuc 4 ∷ pos 4 ∷ negsuc 2 ∷ pos 2 ∷
    negsuc 0 ∷ negsuc 1 ∷ pos 3 ∷ negsuc 2 ∷ pos 3 ∷ negsuc 3 ∷ pos 3 ∷ negsuc 1 ∷ pos 0 ∷ pos 1 ∷ negsuc 1 ∷ pos 3 ∷ negsuc 2 ∷
    pos 3 ∷ negsuc 1 ∷ pos 2 ∷ negsuc 0 ∷ negsuc 0 ∷ pos 2 ∷ negsuc 1 ∷ pos 2 ∷ negsuc 1 ∷ pos 2 ∷ negsuc 0 ∷ pos 1 ∷ pos 0 ∷
    negsuc 0 ∷ pos 2 ∷ negsuc 1 ∷ pos 2 ∷ negsuc 1 ∷ pos 2 ∷ negsuc 0 ∷ pos 0 ∷ pos 1 ∷ negsuc 0 ∷ pos 1 ∷ negsuc 1 ∷ pos 2 ∷
    negsuc 0 ∷ pos 1 ∷ pos 0 ∷ pos 0 ∷ pos 1 ∷ negsuc 0 ∷ pos 1 ∷ negsuc 0 ∷ pos 1 ∷ negsuc 0 ∷ pos 0 ∷ pos 0 ∷ negsuc 0 ∷ pos 1 ∷
    negsuc 0 ∷ pos 1 ∷ negsuc 0 ∷ pos 1 ∷ negsuc 0 ∷ [])
unfolding all
short-windows = (refl, refl, refl, refl)

-- a long window with several books (wpt-movie_5, frame 68)
long-window : Gives 7
    (129 ∷ 27 ∷ 193 ∷ 245 ∷ 136 ∷ 80 ∷ 118 ∷ 20 ∷ 87 ∷ 248 ∷ 21 ∷ 90 ∷ 75 ∷ 243 ∷ 253 ∷ 230 ∷ 211 ∷ 251 ∷ 226 ∷
    206 ∷ 95 ∷ 199 ∷ 148 ∷ 225 ∷ 157 ∷ 72 ∷ 46 ∷ 241 ∷ 218 ∷ 97 ∷ 226 ∷ 137 ∷ 183 ∷ 202 ∷ 32 ∷ 63 ∷ 247 ∷ 45 ∷ 253 ∷
    115 ∷ 9 ∷ 186 ∷ 207 ∷ 0 ∷ 208 ∷ 0 ∷ 206 ∷ 203 ∷ 150 ∷ 133 ∷ 245 ∷ 11 ∷ 135 ∷ 77 ∷ 83 ∷ 191 ∷ 104 ∷ 78 ∷ 182 ∷
    57 ∷ 151 ∷ 64 ∷ 14 ∷ 218 ∷ 91 ∷ 219 ∷ 133 ∷ 44 ∷ 213 ∷ 94 ∷ 43 ∷ 150 ∷ 125 ∷ 167 ∷ 143 ∷ 163 ∷ 76 ∷ 67 ∷ 22 ∷
    156 ∷ 104 ∷ 180 ∷ 121 ∷ 195 ∷ 74 ∷ 106 ∷ 221 ∷ 105 ∷ 197 ∷ 120 ∷ 139 ∷ 99 ∷ 99 ∷ 113 ∷ 61 ∷ 77 ∷ 223 ∷ 82 ∷ 15 ∷
    83 ∷ 91 ∷ 88 ∷ 235 ∷ 55 ∷ 116 ∷ 166 ∷ 173 ∷ 148 ∷ 135 ∷ 232 ∷ 160 ∷ [])
    (record {
      number = 0;
      place = 0;
      gain = 129;
      sequence = 0;
      shape = 1;
      max_sfb = 47;
      group_count = 1;
      groups = in_eight (1 ∷ []);
      bits = 883;
    })
    (0 ∷ 0 ∷ 0 ∷ 0 ∷ 0 ∷ 0 ∷ 0 ∷ 0 ∷ 0 ∷ 0 ∷ 0 ∷ 0 ∷ 0 ∷ 0 ∷ 0 ∷ 0 ∷ 0 ∷ 0 ∷ 0 ∷ 0 ∷ 0 ∷ 0 ∷ 0 ∷ 0 ∷ 0 ∷
    0 ∷ 0 ∷ 0 ∷ 0 ∷ 0 ∷ 0 ∷ 0 ∷ 0 ∷ 0 ∷ 0 ∷ 0 ∷ 0 ∷ 0 ∷ 0 ∷ 0 ∷ 0 ∷ 0 ∷ 1 ∷ 4 ∷ 4 ∷ 4 ∷ 11 ∷ [])
    (0 ∷ 0 ∷ 0 ∷ 0 ∷ 0 ∷ 0 ∷ 0 ∷ 0 ∷ 0 ∷ 0 ∷ 0 ∷ 0 ∷ 0 ∷ 0 ∷ 0 ∷ 0 ∷ 0 ∷ 0 ∷ 0 ∷ 0 ∷ 0 ∷ 0 ∷ 0 ∷ 0 ∷ 0 ∷
    0 ∷ 0 ∷ 0 ∷ 0 ∷ 0 ∷ 0 ∷ 0 ∷ 0 ∷ 0 ∷ 0 ∷ 0 ∷ 0 ∷ 0 ∷ 0 ∷ 0 ∷ 0 ∷ 0 ∷ 129 ∷ 128 ∷ 128 ∷ 129 ∷ 114 ∷ [])
    (pos 0 ∷ pos 0 ∷ pos 0 ∷ pos 0 ∷ pos 0 ∷ pos 0 ∷ pos 0 ∷ pos 0 ∷ pos 0 ∷ pos 0 ∷ pos 0 ∷ pos 0 ∷ pos 0 ∷ pos 0 ∷ pos 0 ∷
    pos 0 ∷ pos 0 ∷ pos 0 ∷ pos 0 ∷ pos 0 ∷ pos 0 ∷ pos 0 ∷ pos 0 ∷ pos 0 ∷ pos 0 ∷ pos 0 ∷ pos 0 ∷ pos 0 ∷ pos 0 ∷ pos 0 ∷
    pos 0 ∷ pos 0 ∷ pos 0 ∷ pos 0 ∷ pos 0 ∷ pos 0 ∷ pos 0 ∷ pos 0 ∷ pos 0 ∷ pos 0 ∷ pos 0 ∷ pos 0 ∷ pos 0 ∷ pos 0 ∷ pos 0 ∷
    pos 0 ∷ pos 0 ∷ pos 0 ∷ pos 0 ∷ pos 0 ∷ pos 0 ∷ pos 0 ∷ pos 0 ∷ pos 0 ∷ pos 0 ∷ pos 0 ∷ pos 0 ∷ pos 0 ∷ pos 0 ∷ pos 0 ∷
    pos 0 ∷ pos 0 ∷ pos 0 ∷ pos 0 ∷ pos 0 ∷ pos 0 ∷ pos 0 ∷ pos 0 ∷ pos 0 ∷ pos 0 ∷ pos 0 ∷ pos 0 ∷ pos 0 ∷ pos 0 ∷ pos 0 ∷
    pos 0 ∷ pos 0 ∷ pos 0 ∷ pos 0 ∷ pos 0 ∷ pos 0 ∷ pos 0 ∷ pos 0 ∷ pos 0 ∷ pos 0 ∷ pos 0 ∷ pos 0 ∷ pos 0 ∷ pos 0 ∷ pos 0 ∷
    pos 0 ∷ pos 0 ∷ pos 0 ∷ pos 0 ∷ pos 0 ∷ pos 0 ∷ pos 0 ∷ pos 0 ∷ pos 0 ∷ pos 0 ∷ pos 0 ∷ pos 0 ∷ pos 0 ∷ pos 0 ∷ pos 0 ∷
    pos 0 ∷ pos 0 ∷ pos 0 ∷ pos 0 ∷ pos 0 ∷ pos 0 ∷ pos 0 ∷ pos 0 ∷ pos 0 ∷ pos 0 ∷ pos 0 ∷ pos 0 ∷ pos 0 ∷ pos 0 ∷ pos 0 ∷
    pos 0 ∷ pos 0 ∷ pos 0 ∷ pos 0 ∷ pos 0 ∷ pos 0 ∷ pos 0 ∷ pos 0 ∷ pos 0 ∷ pos 0 ∷ pos 0 ∷ pos 0 ∷ pos 0 ∷ pos 0 ∷ pos 0 ∷
    pos 0 ∷ pos 0 ∷ pos 0 ∷ pos 0 ∷ pos 0 ∷ pos 0 ∷ pos 0 ∷ pos 0 ∷ pos 0 ∷ pos 0 ∷ pos 0 ∷ pos 0 ∷ pos 0 ∷ pos 0 ∷ pos 0 ∷
    pos 0 ∷ pos 0 ∷ pos 0 ∷ pos 0 ∷ pos 0 ∷ pos 0 ∷ pos 0 ∷ pos 0 ∷ pos 0 ∷ pos 0 ∷ pos 0 ∷ pos 0 ∷ pos 0 ∷ pos 0 ∷ pos 0 ∷
    pos 0 ∷ pos 0 ∷ pos 0 ∷ pos 0 ∷ pos 0 ∷ pos 0 ∷ pos 0 ∷ pos 0 ∷ pos 0 ∷ pos 0 ∷ pos 0 ∷ pos 0 ∷ pos 0 ∷ pos 0 ∷ pos 0 ∷
    pos 0 ∷ pos 0 ∷ pos 0 ∷ pos 0 ∷ pos 0 ∷ pos 0 ∷ pos 0 ∷ pos 0 ∷ pos 0 ∷ pos 0 ∷ pos 0 ∷ pos 0 ∷ pos 0 ∷ pos 0 ∷ pos 0 ∷
    pos 0 ∷ pos 0 ∷ pos 0 ∷ pos 0 ∷ pos 0 ∷ pos 0 ∷ pos 0 ∷ pos 0 ∷ pos 0 ∷ pos 0 ∷ pos 0 ∷ pos 0 ∷ pos 0 ∷ pos 0 ∷ pos 0 ∷
    pos 0 ∷ pos 0 ∷ pos 0 ∷ pos 0 ∷ pos 0 ∷ pos 0 ∷ pos 0 ∷ pos 0 ∷ pos 0 ∷ pos 0 ∷ pos 0 ∷ pos 0 ∷ pos 0 ∷ pos 0 ∷ pos 0 ∷
    pos 0 ∷ pos 0 ∷ pos 0 ∷ pos 0 ∷ pos 0 ∷ pos 0 ∷ pos 0 ∷ pos 0 ∷ pos 0 ∷ pos 0 ∷ pos 0 ∷ pos 0 ∷ pos 0 ∷ pos 0 ∷ pos 0 ∷
    pos 0 ∷ pos 0 ∷ pos 0 ∷ pos 0 ∷ pos 0 ∷ pos 0 ∷ pos 0 ∷ pos 0 ∷ pos 0 ∷ pos 0 ∷ pos 0 ∷ pos 0 ∷ pos 0 ∷ pos 0 ∷ pos 0 ∷
    pos 0 ∷ pos 0 ∷ pos 0 ∷ pos 0 ∷ pos 0 ∷ pos 0 ∷ pos 0 ∷ pos 0 ∷ pos 0 ∷ pos 0 ∷ pos 0 ∷ pos 0 ∷ pos 0 ∷ pos 0 ∷ pos 0 ∷
    pos 0 ∷ pos 0 ∷ pos 0 ∷ pos 0 ∷ pos 0 ∷ pos 0 ∷ pos 0 ∷ pos 0 ∷ pos 0 ∷ pos 0 ∷ pos 0 ∷ pos 0 ∷ pos 0 ∷ pos 0 ∷ pos 0 ∷
    pos 0 ∷ pos 0 ∷ pos 0 ∷ pos 0 ∷ pos 0 ∷ pos 0 ∷ pos 0 ∷ pos 0 ∷ pos 0 ∷ pos 0 ∷ pos 0 ∷ pos 0 ∷ pos 0 ∷ pos 0 ∷ pos 0 ∷
    pos 0 ∷ pos 0 ∷ pos 0 ∷ pos 0 ∷ pos 0 ∷ pos 0 ∷ pos 0 ∷ pos 0 ∷ pos 0 ∷ pos 0 ∷ pos 0 ∷ pos 0 ∷ pos 0 ∷ pos 0 ∷ pos 0 ∷
    pos 0 ∷ pos 0 ∷ pos 0 ∷ pos 0 ∷ pos 0 ∷ pos 0 ∷ pos 0 ∷ pos 0 ∷ pos 0 ∷ pos 0 ∷ pos 0 ∷ pos 0 ∷ pos 0 ∷ pos 0 ∷ pos 0 ∷
    pos 0 ∷ pos 0 ∷ pos 0 ∷ pos 0 ∷ pos 0 ∷ pos 0 ∷ pos 0 ∷ pos 0 ∷ pos 0 ∷ pos 0 ∷ pos 0 ∷ pos 0 ∷ pos 0 ∷ pos 0 ∷ pos 0 ∷
    pos 0 ∷ pos 0 ∷ pos 0 ∷ pos 0 ∷ pos 0 ∷ pos 0 ∷ pos 0 ∷ pos 0 ∷ pos 0 ∷ pos 0 ∷ pos 0 ∷ pos 0 ∷ pos 0 ∷ pos 0 ∷ pos 0 ∷
    pos 0 ∷ pos 0 ∷ pos 0 ∷ pos 0 ∷ pos 0 ∷ pos 0 ∷ pos 0 ∷ pos 0 ∷ pos 0 ∷ pos 0 ∷ pos 0 ∷ pos 0 ∷ pos 0 ∷ pos 0 ∷ pos 0 ∷
    pos 0 ∷ pos 0 ∷ pos 0 ∷ pos 0 ∷ pos 0 ∷ pos 0 ∷ pos 0 ∷ pos 0 ∷ pos 0 ∷ pos 0 ∷ pos 0 ∷ pos 0 ∷ pos 0 ∷ pos 0 ∷ pos 0 ∷
    pos 0 ∷ pos 0 ∷ pos 0 ∷ pos 0 ∷ pos 0 ∷ pos 0 ∷ pos 0 ∷ pos 0 ∷ pos 0 ∷ pos 0 ∷ pos 0 ∷ pos 0 ∷ pos 0 ∷ pos 0 ∷ pos 0 ∷
    pos 0 ∷ pos 0 ∷ pos 0 ∷ pos 0 ∷ pos 0 ∷ pos 0 ∷ pos 0 ∷ pos 0 ∷ pos 0 ∷ pos 0 ∷ pos 0 ∷ pos 0 ∷ pos 0 ∷ pos 0 ∷ pos 0 ∷
    pos 0 ∷ pos 0 ∷ pos 0 ∷ pos 0 ∷ pos 0 ∷ pos 0 ∷ pos 0 ∷ pos 0 ∷ pos 0 ∷ pos 0 ∷ pos 0 ∷ pos 0 ∷ pos 0 ∷ pos 0 ∷ pos 0 ∷
    pos 0 ∷ pos 0 ∷ pos 0 ∷ pos 0 ∷ pos 0 ∷ pos 0 ∷ pos 0 ∷ pos 0 ∷ pos 0 ∷ pos 0 ∷ pos 0 ∷ pos 0 ∷ pos 0 ∷ pos 0 ∷ pos 0 ∷
    pos 0 ∷ pos 0 ∷ pos 0 ∷ pos 0 ∷ pos 0 ∷ pos 0 ∷ pos 0 ∷ pos 0 ∷ pos 0 ∷ pos 0 ∷ pos 0 ∷ pos 0 ∷ pos 0 ∷ pos 0 ∷ pos 0 ∷
    pos 0 ∷ pos 0 ∷ pos 0 ∷ pos 0 ∷ pos 0 ∷ pos 0 ∷ pos 0 ∷ pos 0 ∷ pos 0 ∷ pos 0 ∷ pos 0 ∷ pos 0 ∷ pos 0 ∷ pos 0 ∷ pos 0 ∷
    pos 0 ∷ pos 0 ∷ pos 0 ∷ pos 0 ∷ pos 0 ∷ pos 0 ∷ pos 0 ∷ pos 0 ∷ pos 0 ∷ pos 0 ∷ pos 0 ∷ pos 0 ∷ pos 0 ∷ pos 0 ∷ pos 0 ∷
    pos 0 ∷ pos 0 ∷ pos 0 ∷ pos 0 ∷ pos 0 ∷ pos 0 ∷ pos 0 ∷ pos 0 ∷ pos 0 ∷ pos 0 ∷ pos 0 ∷ pos 0 ∷ pos 0 ∷ pos 0 ∷ pos 0 ∷
    pos 0 ∷ pos 0 ∷ pos 0 ∷ pos 0 ∷ pos 0 ∷ pos 0 ∷ pos 0 ∷ pos 0 ∷ pos 0 ∷ pos 0 ∷ pos 0 ∷ pos 0 ∷ pos 0 ∷ pos 0 ∷ pos 0 ∷
    pos 0 ∷ pos 0 ∷ pos 0 ∷ pos 0 ∷ pos 0 ∷ pos 0 ∷ pos 0 ∷ pos 0 ∷ pos 0 ∷ pos 0 ∷ pos 0 ∷ pos 0 ∷ pos 0 ∷ pos 0 ∷ pos 0 ∷
    pos 0 ∷ pos 0 ∷ pos 0 ∷ pos 0 ∷ pos 0 ∷ pos 0 ∷ pos 0 ∷ pos 0 ∷ pos 0 ∷ pos 0 ∷ pos 0 ∷ pos 0 ∷ pos 0 ∷ pos 0 ∷ pos 0 ∷
    pos 0 ∷ pos 0 ∷ pos 0 ∷ pos 0 ∷ pos 0 ∷ pos 0 ∷ pos 0 ∷ pos 0 ∷ pos 0 ∷ pos 0 ∷ pos 0 ∷ pos 0 ∷ pos 0 ∷ pos 0 ∷ pos 0 ∷
    pos 0 ∷ pos 0 ∷ pos 0 ∷ pos 0 ∷ pos 0 ∷ pos 0 ∷ pos 0 ∷ pos 0 ∷ pos 0 ∷ pos 0 ∷ pos 0 ∷ pos 0 ∷ pos 0 ∷ pos 0 ∷ pos 0 ∷
    pos 0 ∷ pos 0 ∷ pos 0 ∷ pos 0 ∷ pos 0 ∷ pos 0 ∷ pos 0 ∷ pos 0 ∷ pos 0 ∷ pos 0 ∷ pos 0 ∷ pos 0 ∷ pos 0 ∷ pos 0 ∷ pos 0 ∷
    pos 0 ∷ pos 0 ∷ pos 0 ∷ pos 0 ∷ pos 0 ∷ pos 0 ∷ pos 0 ∷ pos 0 ∷ pos 0 ∷ pos 0 ∷ pos 0 ∷ pos 0 ∷ pos 0 ∷ pos 0 ∷ pos 0 ∷
    pos 0 ∷ pos 0 ∷ pos 0 ∷ pos 0 ∷ pos 0 ∷ pos 0 ∷ pos 0 ∷ pos 0 ∷ pos 0 ∷ pos 0 ∷ pos 0 ∷ pos 0 ∷ pos 0 ∷ pos 0 ∷ pos 0 ∷
    pos 0 ∷ pos 0 ∷ pos 0 ∷ pos 0 ∷ pos 0 ∷ pos 0 ∷ pos 0 ∷ pos 0 ∷ pos 0 ∷ pos 0 ∷ pos 0 ∷ pos 0 ∷ pos 0 ∷ pos 0 ∷ pos 0 ∷
    pos 0 ∷ pos 0 ∷ pos 0 ∷ pos 0 ∷ pos 0 ∷ pos 0 ∷ pos 0 ∷ pos 0 ∷ pos 0 ∷ pos 0 ∷ pos 0 ∷ pos 0 ∷ pos 0 ∷ pos 0 ∷ pos 0 ∷
    pos 0 ∷ pos 0 ∷ pos 0 ∷ pos 0 ∷ pos 0 ∷ pos 0 ∷ pos 0 ∷ pos 0 ∷ pos 0 ∷ pos 0 ∷ pos 0 ∷ pos 0 ∷ pos 0 ∷ pos 0 ∷ pos 0 ∷
    pos 0 ∷ pos 0 ∷ pos 0 ∷ pos 0 ∷ pos 0 ∷ pos 0 ∷ pos 0 ∷ pos 0 ∷ pos 0 ∷ pos 0 ∷ pos 0 ∷ pos 0 ∷ pos 0 ∷ pos 0 ∷ pos 0 ∷
    pos 0 ∷ pos 0 ∷ pos 0 ∷ pos 0 ∷ pos 0 ∷ pos 0 ∷ pos 0 ∷ pos 0 ∷ pos 0 ∷ pos 0 ∷ pos 0 ∷ pos 0 ∷ pos 0 ∷ pos 0 ∷ pos 0 ∷
    pos 0 ∷ negsuc 0 ∷ pos 0 ∷ pos 0 ∷ pos 0 ∷ pos 0 ∷ pos 0 ∷ pos 0 ∷ pos 0 ∷ pos 1 ∷ pos 0 ∷ pos 0 ∷ pos 0 ∷ pos 0 ∷
    negsuc 0 ∷ pos 0 ∷ pos 0 ∷ pos 0 ∷ pos 0 ∷ pos 0 ∷ negsuc 0 ∷ pos 0 ∷ pos 0 ∷ pos 1 ∷ pos 0 ∷ pos 0 ∷ pos 1 ∷ pos 1 ∷
    pos 0 ∷ pos 1 ∷ pos 1 ∷ pos 0 ∷ pos 1 ∷ pos 0 ∷ pos 0 ∷ pos 0 ∷ pos 0 ∷ pos 0 ∷ pos 0 ∷ pos 0 ∷ negsuc 0 ∷ negsuc 0 ∷
    pos 0 ∷ pos 1 ∷ pos 0 ∷ pos 1 ∷ pos 1 ∷ pos 0 ∷ pos 0 ∷ negsuc 0 ∷ pos 1 ∷ pos 0 ∷ pos 0 ∷ negsuc 0 ∷ negsuc 0 ∷ pos 0 ∷
    pos 0 ∷ pos 0 ∷ pos 0 ∷ pos 0 ∷ pos 0 ∷ pos 0 ∷ pos 0 ∷ pos 0 ∷ negsuc 0 ∷ pos 0 ∷ negsuc 0 ∷ pos 0 ∷ pos 0 ∷ negsuc 0 ∷
    pos 0 ∷ pos 1 ∷ pos 0 ∷ pos 1 ∷ negsuc 1 ∷ pos 0 ∷ pos 0 ∷ pos 1 ∷ pos 0 ∷ pos 0 ∷ negsuc 0 ∷ pos 0 ∷ pos 0 ∷ pos 0 ∷
    pos 1 ∷ pos 1 ∷ pos 0 ∷ pos 0 ∷ pos 0 ∷ pos 1 ∷ pos 1 ∷ pos 0 ∷ pos 1 ∷ pos 0 ∷ negsuc 0 ∷ negsuc 0 ∷ pos 1 ∷ negsuc 1 ∷
    pos 0 ∷ negsuc 0 ∷ pos 0 ∷ pos 0 ∷ negsuc 0 ∷ negsuc 0 ∷ negsuc 0 ∷ negsuc 0 ∷ negsuc 0 ∷ pos 0 ∷ pos 1 ∷ negsuc 0 ∷ pos 1 ∷
    pos 1 ∷ negsuc 0 ∷ pos 0 ∷ negsuc 0 ∷ negsuc 0 ∷ negsuc 0 ∷ pos 0 ∷ pos 0 ∷ pos 1 ∷ pos 0 ∷ pos 1 ∷ pos 2 ∷ pos 0 ∷ pos 0 ∷
    pos 1 ∷ pos 1 ∷ negsuc 0 ∷ negsuc 0 ∷ negsuc 0 ∷ pos 0 ∷ pos 2 ∷ negsuc 0 ∷ pos 2 ∷ pos 0 ∷ negsuc 1 ∷ pos 0 ∷ negsuc 0 ∷
    negsuc 0 ∷ negsuc 0 ∷ pos 0 ∷ pos 0 ∷ pos 0 ∷ negsuc 0 ∷ pos 0 ∷ pos 1 ∷ pos 0 ∷ pos 0 ∷ pos 1 ∷ pos 1 ∷ negsuc 0 ∷ pos 0 ∷
    pos 1 ∷ pos 0 ∷ negsuc 0 ∷ pos 1 ∷ negsuc 0 ∷ pos 0 ∷ pos 0 ∷ pos 0 ∷ pos 1 ∷ pos 2 ∷ pos 1 ∷ negsuc 0 ∷ pos 1 ∷ pos 0 ∷
    pos 0 ∷ pos 1 ∷ pos 1 ∷ pos 1 ∷ pos 1 ∷ pos 0 ∷ negsuc 0 ∷ pos 1 ∷ pos 1 ∷ negsuc 1 ∷ pos 0 ∷ pos 0 ∷ pos 1 ∷ negsuc 0 ∷
    pos 0 ∷ pos 1 ∷ negsuc 1 ∷ negsuc 0 ∷ pos 1 ∷ negsuc 0 ∷ negsuc 0 ∷ pos 2 ∷ pos 0 ∷ pos 1 ∷ pos 0 ∷ negsuc 0 ∷ pos 0 ∷
    pos 0 ∷ pos 0 ∷ pos 0 ∷ pos 0 ∷ pos 1 ∷ negsuc 0 ∷ negsuc 0 ∷ pos 1 ∷ negsuc 1 ∷ pos 1 ∷ negsuc 0 ∷ pos 0 ∷ pos 0 ∷
    negsuc 0 ∷ pos 0 ∷ negsuc 0 ∷ pos 0 ∷ negsuc 0 ∷ pos 0 ∷ pos 0 ∷ pos 0 ∷ negsuc 0 ∷ negsuc 0 ∷ pos 1 ∷ pos 1 ∷ negsuc 0 ∷
    pos 1 ∷ negsuc 0 ∷ negsuc 0 ∷ pos 2 ∷ negsuc 0 ∷ pos 1 ∷ pos 1 ∷ pos 0 ∷ pos 0 ∷ pos 1 ∷ pos 0 ∷ pos 0 ∷ pos 1 ∷ pos 0 ∷
    pos 2 ∷ pos 1 ∷ negsuc 0 ∷ negsuc 0 ∷ negsuc 0 ∷ pos 1 ∷ pos 2 ∷ pos 1 ∷ pos 0 ∷ negsuc 0 ∷ negsuc 0 ∷ negsuc 0 ∷ pos 0 ∷
    pos 0 ∷ negsuc 1 ∷ negsuc 0 ∷ pos 0 ∷ pos 1 ∷ pos 0 ∷ pos 1 ∷ negsuc 0 ∷ pos 1 ∷ pos 3 ∷ negsuc 1 ∷ negsuc 6 ∷ pos 3 ∷
    pos 12 ∷ negsuc 6 ∷ pos 3 ∷ negsuc 8 ∷ pos 15 ∷ negsuc 6 ∷ negsuc 3 ∷ pos 13 ∷ pos 6 ∷ pos 2 ∷ pos 6 ∷ pos 7 ∷ negsuc 6 ∷
    pos 6 ∷ pos 0 ∷ pos 4 ∷ negsuc 4 ∷ negsuc 8 ∷ negsuc 0 ∷ negsuc 1 ∷ pos 9 ∷ pos 3 ∷ pos 1 ∷ pos 9 ∷ pos 4 ∷ negsuc 9 ∷
    pos 9 ∷ pos 6 ∷ negsuc 10 ∷ negsuc 3 ∷ pos 6 ∷ negsuc 6 ∷ pos 4 ∷ pos 1 ∷ negsuc 7 ∷ pos 8 ∷ negsuc 10 ∷ negsuc 4 ∷ negsuc 8 ∷
    pos 1 ∷ negsuc 1 ∷ pos 14 ∷ pos 6 ∷ negsuc 2 ∷ negsuc 3 ∷ pos 14 ∷ negsuc 5 ∷ pos 6 ∷ negsuc 7 ∷ pos 4 ∷ negsuc 8 ∷ pos 2 ∷
    pos 3 ∷ pos 14 ∷ pos 4 ∷ negsuc 9 ∷ negsuc 2 ∷ pos 19 ∷ pos 8 ∷ negsuc 12 ∷ [])
unfolding all
long-window = (refl, refl, refl, refl)

-- three pulses (pulses, frame 104)
with_pulses : Gives 3
    (177 ∷ 21 ∷ 136 ∷ 208 ∷ 40 ∷ 145 ∷ 101 ∷ 108 ∷ 7 ∷ 3 ∷ 10 ∷ 31 ∷ 8 ∷ 52 ∷ 11 ∷ 104 ∷ 163 ∷ 162 ∷ 198 ∷ 89 ∷
    92 ∷ 210 ∷ 159 ∷ 170 ∷ 106 ∷ 70 ∷ 108 ∷ 14 ∷ 14 ∷ 165 ∷ 167 ∷ 72 ∷ 21 ∷ 0 ∷ [])
    (record {
      number = 0;
      place = 0;
      gain = 177;
      sequence = 0;
      shape = 1;
      max_sfb = 22;
      group_count = 1;
      groups = in_eight (1 ∷ []);
      bits = 268;
    })
    (4 ∷ 4 ∷ 4 ∷ 4 ∷ 4 ∷ 4 ∷ 4 ∷ 4 ∷ 4 ∷ 4 ∷ 4 ∷ 4 ∷ 4 ∷ 0 ∷ 0 ∷ 0 ∷ 0 ∷ 0 ∷ 1 ∷ 1 ∷ 1 ∷ 1 ∷ [])
    (177 ∷ 175 ∷ 175 ∷ 175 ∷ 176 ∷ 179 ∷ 179 ∷ 179 ∷ 179 ∷ 179 ∷ 179 ∷ 179 ∷ 179 ∷ 0 ∷ 0 ∷ 0 ∷ 0 ∷ 0 ∷ 175 ∷ 175 ∷
    175 ∷ 175 ∷ [])
    (pos 0 ∷ pos 0 ∷ pos 0 ∷ negsuc 0 ∷ pos 1 ∷ pos 0 ∷ pos 0 ∷ negsuc 0 ∷ pos 1 ∷ pos 0 ∷ negsuc 0 ∷ negsuc 0 ∷ pos 1 ∷ pos 0 ∷
    pos 0 ∷ negsuc 0 ∷ pos 1 ∷ pos 1 ∷ pos 0 ∷ pos 0 ∷ pos 0 ∷ pos 16 ∷ pos 0 ∷ pos 0 ∷ pos 0 ∷ pos 1 ∷ pos 0 ∷ pos 0 ∷ pos 0 ∷
    pos 1 ∷ pos 0 ∷ pos 1 ∷ pos 1 ∷ negsuc 0 ∷ pos 2 ∷ pos 1 ∷ pos 2 ∷ negsuc 1 ∷ pos 2 ∷ pos 1 ∷ pos 1 ∷ negsuc 1 ∷ pos 1 ∷
    pos 1 ∷ pos 1 ∷ negsuc 0 ∷ pos 0 ∷ pos 0 ∷ pos 0 ∷ pos 0 ∷ pos 0 ∷ pos 1 ∷ negsuc 0 ∷ negsuc 0 ∷ negsuc 0 ∷ pos 1 ∷
    negsuc 0 ∷ negsuc 0 ∷ negsuc 0 ∷ pos 1 ∷ negsuc 0 ∷ pos 0 ∷ pos 0 ∷ pos 1 ∷ pos 0 ∷ pos 0 ∷ pos 0 ∷ pos 0 ∷ pos 0 ∷ pos 0 ∷
    pos 0 ∷ pos 0 ∷ pos 0 ∷ pos 0 ∷ pos 0 ∷ pos 0 ∷ pos 0 ∷ pos 0 ∷ pos 0 ∷ pos 0 ∷ pos 0 ∷ pos 0 ∷ pos 0 ∷ pos 0 ∷ pos 0 ∷
    pos 0 ∷ pos 0 ∷ pos 0 ∷ pos 0 ∷ pos 0 ∷ pos 0 ∷ pos 0 ∷ pos 0 ∷ pos 0 ∷ pos 0 ∷ pos 0 ∷ pos 0 ∷ pos 0 ∷ pos 0 ∷ pos 0 ∷
    pos 0 ∷ pos 0 ∷ pos 0 ∷ pos 0 ∷ pos 0 ∷ pos 0 ∷ pos 0 ∷ pos 0 ∷ pos 0 ∷ negsuc 0 ∷ negsuc 0 ∷ pos 0 ∷ pos 0 ∷ negsuc 0 ∷
    negsuc 0 ∷ pos 0 ∷ pos 0 ∷ pos 0 ∷ pos 0 ∷ pos 0 ∷ pos 0 ∷ pos 0 ∷ pos 0 ∷ pos 0 ∷ pos 0 ∷ pos 0 ∷ pos 0 ∷ pos 0 ∷ pos 0 ∷
    pos 0 ∷ pos 0 ∷ pos 0 ∷ pos 0 ∷ pos 0 ∷ pos 0 ∷ pos 0 ∷ pos 0 ∷ pos 0 ∷ pos 0 ∷ pos 0 ∷ pos 0 ∷ pos 0 ∷ negsuc 0 ∷ [])
unfolding all
with_pulses = (refl, refl, refl, refl)
