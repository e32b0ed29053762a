-- Where a refusal stands, computed: the first bit of the field that was judged.
-- Assumes nothing.
use Prim.Native.Nat.{ℕ}
use mathlib.Core.Path.{◌≡◌, refl}
use mathlib.Core.List.{List, [], ◌∷◌}
use Rattle.bits.specs.Reader.{refused}
use Rattle.bits.specs.Payload.{range_in, whole}
use Rattle.bits.specs.Calls.{returned, number_in, place_in}
use Rattle.channel.specs.Stream.{stream}
use Rattle.channel.proofs.All.{all as channel_all}
use Rattle.stereo.specs.State.{fresh, lost}
use Rattle.stereo_reader.specs.Reading.{refusal, read_from}
use Rattle.stereo_reader.proofs.All.{all as stereo_all}

-- a channel stream at index 4 is refused with a number, at a place
abbrev Refuses : List ℕ → ℕ → ℕ → Type 0
Refuses bytes n place = whole (stream 4) bytes ≡ refused n place

-- the head: the reserved bit; the prediction flag, which follows max_sfb; max_sfb
head : Refuses (100 ∷ 128 ∷ 0 ∷ []) 13 8 × Refuses (100 ∷ 0 ∷ 32 ∷ []) 20 18 × Refuses (100 ∷ 12 ∷ 128 ∷ []) 21 12
unfolding channel_all
head = (refl, refl, refl)

-- a section: an increment of 0, and one that passes max_sfb, each at its first bit; book 12 before its increment
section : Refuses (100 ∷ 0 ∷ 66 ∷ 0 ∷ 0 ∷ []) 22 23 × Refuses (100 ∷ 1 ∷ 66 ∷ 96 ∷ 0 ∷ []) 22 23 × Refuses (100 ∷ 0 ∷ 88 ∷ 0 ∷ []) 23 19
unfolding channel_all
section = (refl, refl, refl)

-- pulses: the flag with short windows; a start band that is none; of two pulses the second's offset, where the line passes 8191 after the
-- whole spectrum
pulse : Refuses (100 ∷ 64 ∷ 1 ∷ []) 25 23
    × Refuses (100 ∷ 0 ∷ 19 ∷ 16 ∷ 0 ∷ []) 25 22
    × Refuses (100 ∷ 0 ∷ 86 ∷ 21 ∷ 0 ∷ 0 ∷ 1 ∷ 56 ∷ 79 ∷ 247 ∷ 255 ∷ 128 ∷ []) 26 47
unfolding channel_all
pulse = (refl, refl, refl)

-- a word that is cut off, at its first bit; an escape is one field: the ninth one, and bits that run out in it
word_cut : Refuses (100 ∷ 0 ∷ 86 ∷ 31 ∷ []) 10 28
unfolding channel_all
word_cut = refl

escapes : Refuses (100 ∷ 0 ∷ 86 ∷ 16 ∷ 225 ∷ 63 ∷ 224 ∷ []) 26 42 × Refuses (100 ∷ 0 ∷ 86 ∷ 16 ∷ 225 ∷ 60 ∷ []) 10 42
unfolding channel_all
escapes = (refl, refl)

-- an extension: one that passes the payload's end, at the first bit after its size; a second v0, and another id, at that id; phase data
-- with no mode, at its flag
extension : (read_from fresh (range_in (144 ∷ 96 ∷ 0 ∷ []) 0 3) ≡ refusal 10 11 (lost fresh))
    × (read_from fresh (range_in (144 ∷ 64 ∷ 0 ∷ 0 ∷ []) 0 4) ≡ refusal 33 15 (lost fresh))
    × (read_from fresh (range_in (144 ∷ 64 ∷ 128 ∷ 0 ∷ []) 0 4) ≡ refusal 13 15 (lost fresh))
    × (read_from fresh (range_in (144 ∷ 36 ∷ 0 ∷ []) 0 3) ≡ refusal 34 13 (lost fresh))
unfolding stereo_all
extension = (refl, refl, refl, refl)

-- a place is counted from the payload's first bit, wherever the payload stands
moved : read_from fresh (range_in (255 ∷ 255 ∷ 0 ∷ 0 ∷ 255 ∷ []) 2 4) ≡ refusal 12 4 (lost fresh)
unfolding stereo_all
moved = refl

-- 10 at bit 15, as it comes back to a program in C
for_c : (returned 10 15 ≡ 3850) × (number_in 3850 ≡ 10) × (place_in 3850 ≡ 15)
for_c = (refl, refl, refl)
