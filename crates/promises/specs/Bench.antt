-- The bench examples that are proved: one table of statements, each beside the words of the rules.
use Rattle.std.specs.Prelude.{ℕ, ◌≡◌, List, [], ◌∷◌, true, false, ◌≢◌, pos}
use Rattle.bits.specs.Bits.{bits_from}
use Rattle.bits.specs.Reader.{got, refused}
use Rattle.bits.specs.Payload.{range_in, whole}
use Rattle.words.specs.Escape.{escape}
use Rattle.channel_bands.specs.Grouping.{groups_after}
use Rattle.channel_side.specs.Sections.{section_length}
use Rattle.channel.specs.Stream.{stream}
use Rattle.stereo_indices.specs.Record.{none}
use Rattle.stereo_indices.specs.Rows.{no_rows}
use Rattle.stereo_indices.specs.Indices.{index}
use Rattle.stereo_indices.specs.declared.Kind.TheVariants.{Iid, Ipd}
use Rattle.stereo.specs.State.{fresh, lost}
use Rattle.stereo.specs.Frame.{no_frame}
use Rattle.stereo.specs.Extension.{no_part}
use Rattle.stereo.specs.Payload.{no_contents}
use Rattle.stereo.specs.declared.State.{State}
use Rattle.stereo.specs.declared.Contents.{Contents}
use Rattle.stereo_reader.specs.Reading.{refusal, read_bytes, read_from}
use Rattle.stereo_reader.specs.declared.Reading.{Reading}

abbrev pub accepted : ℕ → Contents → State → Reading
accepted bits c st = record { number = 0; place = 0; bits = bits; contents = c; state = st }

-- a header with the extension enabled, no envelopes, and an extension of size 0
abbrev empty_extension : Contents
empty_extension = record {
  header = record { there = 1; iid = 0; iidmode = 0; icc = 0; iccmode = 0; ext = 1 };
  frame = no_frame;
  iid = no_rows;
  icc = no_rows;
  extension = record { there = 1; size = 0; esc = 0; part = no_part };
}

-- the extension enabled, and nothing else
abbrev with_extension : State
with_extension = record {
  setup = record { iid = false; icc = false; ext = true; iidmode = 7; iccmode = 7 };
  iid = none;
  icc = none;
  ipd = none;
  opd = none;
  instep = true;
}

unfoldable pub bench : List (Type 0)
bench =
    -- fresh, stereo 00: no envelopes, 4 bits
    (read_from fresh (range_in (0 ∷ []) 0 1) ≡ accepted 4 no_contents fresh)
    -- 00 00: 12
    ∷ (read_from fresh (range_in (0 ∷ 0 ∷ []) 0 2) ≡ refusal 12 4 (lost fresh))
    -- out of step, 00: 35
    ∷ (read_from (lost fresh) (range_in (0 ∷ []) 0 1) ≡ refusal 35 4 (lost fresh))
    -- empty: 10
    ∷ (read_from fresh (range_in [] 0 0) ≡ refusal 10 0 (lost fresh))
    -- bits 11110 first: 13 (IID mode 6), whatever follows and from every state
    ∷ ((st : State) (s : List ℕ) → s ≢ [] → bits_from s 0 5 ≡ 30 → read_bytes st s ≡ refusal 13 2 (lost st))
    -- fresh, 90 00: 11 bits used, extension empty
    ∷ (read_from fresh (range_in (144 ∷ 0 ∷ []) 0 2) ≡ accepted 11 empty_extension with_extension)
    -- escape 00000: 16
    ∷ (escape (0 ∷ []) 0 5 ≡ got 16 5)
    -- eight ones, 0, twelve ones: 8191
    ∷ (escape (255 ∷ 127 ∷ 248 ∷ []) 0 21 ≡ got 8191 21)
    -- nine ones: 26
    ∷ (escape (255 ∷ 128 ∷ []) 0 9 ≡ refused 26 0)
    -- grouping 0110000: groups of 1, 3, 1, 1, 1, 1
    ∷ (groups_after 8 48 ≡ 1 ∷ 3 ∷ 1 ∷ 1 ∷ 1 ∷ 1 ∷ [])
    -- long increments 31, 0: length 31
    ∷ (section_length 5 49 (248 ∷ 0 ∷ []) 0 10 ≡ got 31 10)
    -- gain 255, difference +1: 24
    ∷ (whole (stream 3) (255 ∷ 0 ∷ 66 ∷ 26 ∷ []) ≡ refused 24 28)
    -- gain 0, difference -1: 24
    ∷ (whole (stream 3) (0 ∷ 0 ∷ 66 ∷ 24 ∷ []) ≡ refused 24 28)
    -- phase 6, difference 5: 3
    ∷ (index Ipd 0 1 (pos 6 ∷ []) [] (0 ∷ []) 0 8 ≡ got (pos 3) 4)
    -- IID mode 0, index 7, difference +1: 32
    ∷ (index Iid 0 1 (pos 7 ∷ []) [] (192 ∷ []) 0 8 ≡ refused 32 0)
    ∷ []

-- every statement of a table
abbrev pub AllHold : List (Type 0) → Type 0
AllHold [] = Unit
AllHold (p ∷ ps) = p × AllHold ps
