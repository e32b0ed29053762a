-- One frame, computed: the silent stream 64 00 00 of 22 bits wrapped at index 6, read back, and refused by one fault at a time.
-- Assumes nothing.
use Prim.Native.Nat.{ℕ}
use mathlib.Core.Path.{◌≡◌, refl}
use mathlib.Core.List.{List, [], ◌∷◌, ◌++◌}
use mathlib.Core.Bool.{true}
use Rattle.bits.specs.Reader.{got}
use Rattle.bits.specs.Inside.{inside}
use Rattle.bits.specs.Packed.{replaced, put, put_all, packed}
use Rattle.channel.proofs.All.{all}
use Rattle.channel.specs.Promise.{reading_of}
use Rattle.channel.specs.declared.Reading.{Reading}
use Rattle.adts.specs.Header.{syncword, only, sampling_index, fixed_half, variable_half, header}
use Rattle.adts.specs.Block.{element, single_channel, raw_block}
use Rattle.adts.specs.Frame.{whole_header, fitting, frame_header}
use Rattle.adts.specs.Cut.{each_bit, cut_out}
use Rattle.adts.specs.Wrapping.{spell_kind, spell_voice, spell_variable_half, spell_block, wrapping}
use Rattle.adts.specs.Promise.{header_at, stream_at}

-- the definitions of frames, open
unfoldable frames : Unit {0}
unfolding all inside replaced put put_all packed syncword only sampling_index fixed_half variable_half header element single_channel
    raw_block
    whole_header fitting frame_header each_bit cut_out spell_kind spell_voice spell_variable_half spell_block wrapping header_at
frames = tt

-- what is read of the frame at a byte
abbrev reading : List ℕ → ℕ → Reading
reading file start = reading_of (stream_at file start (header_at file start true))

-- the frame, by its last byte of header and its block
abbrev framing : List ℕ → List ℕ
framing block = 255 ∷ 241 ∷ 88 ∷ 64 ∷ 1 ∷ 127 ∷ 252 ∷ block

abbrev whole : List ℕ
whole = framing (0 ∷ 200 ∷ 0 ∷ 7 ∷ [])

silent_wrapped : wrapping 6 (100 ∷ 0 ∷ 0 ∷ []) 22 ≡ whole
unfolding frames
silent_wrapped = refl

silent-header : frame_header whole ≡ got (record { index = 6; length = 11 }) 56
unfolding frames
silent-header = refl

silent-read : ((reading whole 0).number ≡ 0) × ((reading whole 0).gain ≡ 100) × ((reading whole 0).bits ≡ 22)
unfolding frames
silent-read = (refl, refl, refl)

silent-cut : cut_out whole 63 22 ≡ 100 ∷ 0 ∷ 0 ∷ []
unfolding frames
silent-cut = refl

-- the number that comes back
abbrev number : List ℕ → ℕ → ℕ
number file start = (reading file start).number

-- a start at the file's end is 10, past it 1; a header of 6 bytes is 10
starts : (number whole 11 ≡ 10) × (number whole 12 ≡ 1) × (number (255 ∷ 241 ∷ 88 ∷ 64 ∷ 1 ∷ 127 ∷ []) 0 ≡ 10)
unfolding frames
starts = (refl, refl, refl)

-- no sync; check words, also where the length is 0; a byte too few
headers : (number (254 ∷ 241 ∷ 88 ∷ 64 ∷ 1 ∷ 127 ∷ 252 ∷ []) 0 ≡ 50)
    × (number (255 ∷ 240 ∷ 88 ∷ 64 ∷ 0 ∷ 31 ∷ 252 ∷ []) 0 ≡ 51)
    × (number (framing (0 ∷ 200 ∷ 0 ∷ [])) 0 ≡ 52)
unfolding frames
headers = (refl, refl, refl)

-- another element first; another one last; any tag
elements : (number (framing (32 ∷ 200 ∷ 0 ∷ 7 ∷ [])) 0 ≡ 53)
    × (number (framing (0 ∷ 200 ∷ 0 ∷ 6 ∷ [])) 0 ≡ 53)
    × (number (framing (30 ∷ 200 ∷ 0 ∷ 7 ∷ [])) 0 ≡ 0)
unfolding frames
elements = (refl, refl, refl)

-- a frame that is a byte longer is 12, a byte shorter 10; bytes after a frame do not count
ends : (number (255 ∷ 241 ∷ 88 ∷ 64 ∷ 1 ∷ 159 ∷ 252 ∷ 0 ∷ 200 ∷ 0 ∷ 7 ∷ 0 ∷ []) 0 ≡ 12)
    × (number (255 ∷ 241 ∷ 88 ∷ 64 ∷ 1 ∷ 95 ∷ 252 ∷ 0 ∷ 200 ∷ 0 ∷ []) 0 ≡ 10)
    × (number (whole ++ 255 ∷ 0 ∷ []) 0 ≡ 0)
unfolding frames
ends = (refl, refl, refl)
