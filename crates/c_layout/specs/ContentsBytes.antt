-- An answered stereo payload as 582 bytes: the bits it used as a word; the header's fields; class, envelope count and
-- borders; the extension's fields and fill bits; then of each of four envelopes a time flag and 34 indices for IID, ICC,
-- IPD and OPD.
use Rattle.std.specs.Prelude.{ℕ, zero, suc, ◌+◌, List, [], ◌∷◌, ◌++◌, get_or}
use Rattle.stereo_indices.specs.Rows.{no_row}
use Rattle.stereo_indices.specs.declared.Row.{Row}
use Rattle.stereo.specs.Extension.{no_phases}
use Rattle.stereo.specs.declared.Header.{Header}
use Rattle.stereo.specs.declared.Frame.{Frame}
use Rattle.stereo.specs.declared.Phases.{Phases}
use Rattle.stereo.specs.declared.Extension.{Extension}
use Rattle.stereo.specs.declared.Contents.{Contents}
use Rattle.bits.specs.Bytes.{byte_of, word_of}
use Rattle.c_layout.specs.Indices.{indices_at, numbered}

abbrev pub header_bytes : Header → List ℕ
header_bytes h =
    byte_of h.there ∷ byte_of h.iid ∷ byte_of h.iidmode ∷ byte_of h.icc ∷ byte_of h.iccmode ∷ byte_of h.ext ∷ []

abbrev pub frame_bytes : Frame → List ℕ
frame_bytes f =
    byte_of f.class ∷ byte_of f.envelopes ∷ byte_of (get_or f.borders 0 0) ∷ byte_of (get_or f.borders 1 0) ∷ byte_of
    (get_or f.borders 2 0)
    ∷ byte_of (get_or f.borders 3 0) ∷ []

abbrev pub extension_bytes : Extension → List ℕ
extension_bytes x =
    byte_of x.there ∷ byte_of x.size ∷ byte_of x.esc ∷ byte_of x.part.body.phase ∷ byte_of x.part.count ∷ byte_of
    x.part.value ∷ []

-- what stands before the envelopes
unfoldable pub answer_head : ℕ → Contents → List ℕ
answer_head bits c = word_of bits ++ header_bytes c.header ++ frame_bytes c.frame ++ extension_bytes c.extension

unfoldable pub row_bytes : Row → List ℕ
row_bytes r = numbered r.time r.indices

-- one envelope: 140 bytes
unfoldable pub envelope_bytes : Row → Row → Phases → List ℕ
envelope_bytes iid icc phases = row_bytes iid ++ row_bytes icc ++ row_bytes phases.ipd ++ row_bytes phases.opd

-- the first n envelopes, from a kind's rows in each
unfoldable pub envelopes_bytes : List Row → List Row → List Phases → ℕ → List ℕ
envelopes_bytes iid icc phases zero = []
envelopes_bytes iid icc phases (suc n) =
    envelopes_bytes iid icc phases n ++ envelope_bytes (get_or iid n no_row) (get_or icc n no_row) (get_or phases n no_phases)

-- the bytes of an answer
unfoldable pub answer_bytes : ℕ → Contents → List ℕ
answer_bytes bits c = answer_head bits c ++ envelopes_bytes c.iid c.icc c.extension.part.body.phases 4

-- the row at a place
unfoldable pub row_at : List ℕ → ℕ → Row
row_at s at = record { time = get_or s at 0; indices = indices_at s (at + 1) }

-- a kind's rows in the four envelopes, the first at a place
unfoldable pub rows_at : List ℕ → ℕ → List Row
rows_at s at = row_at s at ∷ row_at s (at + 140) ∷ row_at s (at + 280) ∷ row_at s (at + 420) ∷ []

-- an envelope's phases at a place
unfoldable pub phases_at : List ℕ → ℕ → Phases
phases_at s at = record { ipd = row_at s at; opd = row_at s (at + 35) }

unfoldable pub all_phases_at : List ℕ → ℕ → List Phases
all_phases_at s at = phases_at s at ∷ phases_at s (at + 140) ∷ phases_at s (at + 280) ∷ phases_at s (at + 420) ∷ []

unfoldable pub header_at : List ℕ → Header
header_at s = record {
  there = get_or s 4 0;
  iid = get_or s 5 0;
  iidmode = get_or s 6 0;
  icc = get_or s 7 0;
  iccmode = get_or s 8 0;
  ext = get_or s 9 0;
}

unfoldable pub frame_at : List ℕ → Frame
frame_at s = record {
  class = get_or s 10 0;
  envelopes = get_or s 11 0;
  borders = get_or s 12 0 ∷ get_or s 13 0 ∷ get_or s 14 0 ∷ get_or s 15 0 ∷ [];
}

unfoldable pub extension_at : List ℕ → Extension
extension_at s = record {
  there = get_or s 16 0;
  size = get_or s 17 0;
  esc = get_or s 18 0;
  part = record { body = record { phase = get_or s 19 0; phases = all_phases_at s 92 }; count = get_or s 20 0; value = get_or s 21 0 };
}

-- the contents that bytes stand for
unfoldable pub contents_at : List ℕ → Contents
contents_at s = record {
  header = header_at s;
  frame = frame_at s;
  iid = rows_at s 22;
  icc = rows_at s 57;
  extension = extension_at s;
}
