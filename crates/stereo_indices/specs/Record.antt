-- A kind's record: none, or the mode it was coded in and its 34 indices.
use Rattle.std.specs.Prelude.{ℕ, ◌+◌, List, [], ◌∷◌, Bool, true, ◌&&◌, ◌||◌, eqb, leb, ltb, replicate, ℤ, pos}
use Rattle.bits.specs.Reader.{pick}
use Rattle.stereo_indices.specs.Kind.{bands, least, most, within}
use Rattle.stereo_indices.specs.declared.Kind.{Kind}
use Rattle.stereo_indices.specs.declared.Record.{Record}

-- 34 zeros
unfoldable pub zeros : List ℤ
zeros = replicate 34 (pos 0)

-- no payload can send the mode 7: it stands for none
abbrev pub is_none : ℕ → Bool
is_none mode = eqb mode 7

abbrev pub record_of : ℕ → List ℤ → Record
record_of mode xs = record { mode = mode; indices = xs }

-- a record of none is all 0
unfoldable pub none : Record
none = record_of 7 zeros

-- a record's mode is the mode now in force; a record of none agrees with every mode
unfoldable pub agrees : ℕ → ℕ → Bool
agrees record_mode mode = is_none record_mode || eqb record_mode mode

-- modes 0 to 5, or none
abbrev pub sound_mode : ℕ → Bool
sound_mode mode = leb mode 5 || is_none mode

-- how many indices of a record may be other than 0
abbrev pub record_bands : Kind → ℕ → ℕ
record_bands k mode = pick (is_none mode) 0 (bands k mode)

-- an index of band i: in range below the count, 0 from there on
unfoldable pub sound_index : Kind → ℕ → ℕ → ℤ → Bool
sound_index k mode i x = pick (ltb i (record_bands k mode)) (within (least k mode) (most k mode) x) (within (pos 0) (pos 0) x)

-- the indices from band i on
unfoldable pub sound_from : Kind → ℕ → ℕ → List ℤ → Bool
sound_from k mode i [] = true
sound_from k mode i (x ∷ xs) = sound_index k mode i x && sound_from k mode (i + 1) xs

-- every index in range, with zeros above the count
unfoldable pub sound_record : Kind → Record → Bool
sound_record k h = sound_mode h.mode && sound_from k h.mode 0 h.indices
