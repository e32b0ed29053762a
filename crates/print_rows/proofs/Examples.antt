-- Rows of a dump, computed.
-- Assumes nothing.
use mathlib.Core.Path.{◌≡◌, refl}
use mathlib.Core.List.{[], ◌∷◌}
use mathlib.Core.Bool.{true, false}
use lib.IntN.{pos, negsuc}
use Rattle.channel.specs.declared.Reading.{Reading}
use Rattle.stereo_indices.specs.Rows.{no_row}
use Rattle.stereo_indices.specs.Record.{none}
use Rattle.stereo.specs.State.{fresh, fresh_setup}
use Rattle.stereo.specs.Header.{no_header}
use Rattle.stereo.specs.Frame.{no_frame}
use Rattle.stereo.specs.Extension.{no_phases, no_body, no_part, no_extension}
use Rattle.stereo.specs.declared.Contents.{Contents}
use Rattle.print_lines.specs.InnerText.{ascii, number_text, form_text}
use Rattle.print_rows.specs.InnerSigned.{signed_text}
use Rattle.print_rows.specs.InnerEach.{each, next_number, next_index, value_text}
use Rattle.print_rows.specs.InnerFill.{fill_text}
use Rattle.print_rows.specs.InnerChannelRows.{window_row, bands_row, books_row, factors_row, values_row}
use Rattle.print_rows.specs.InnerStereoRows.{header_row, frame_row, part_row, extension_row}
use Rattle.print_rows.specs.InnerEnvelopeRows.{envelope_row, iid_row}
use Rattle.print_rows.specs.InnerStateRows.{state_row, record_row, iid_record}

-- two groups, of five windows and of three, with two bands each
abbrev short : Reading
short = record {
  number = 0;
  place = 0;
  gain = 100;
  sequence = 2;
  shape = 1;
  max_sfb = 2;
  group_count = 2;
  groups = 5 ∷ 3 ∷ 0 ∷ [];
  bits = 90;
}

channel-rows : (window_row short ≡ ascii "  window 2 shape 1 max_sfb 2 groups 5 3")
    × (books_row short (11 ∷ 0 ∷ 1 ∷ 15 ∷ 9 ∷ []) ≡ ascii "  books 11 0 1 15")
    × (factors_row short (100 ∷ 0 ∷ 101 ∷ 255 ∷ 9 ∷ []) ≡ ascii "  factors 100 0 101 255")
    × (values_row (pos 0 ∷ negsuc 32767 ∷ pos 0 ∷ pos 81 ∷ []) ≡ ascii "  values 1:-32768 3:81")
unfolding number_text form_text signed_text each next_number value_text window_row bands_row values_row
channel-rows = (refl, refl, refl, refl)

-- a border is printed whole, whatever 32 bits hold
stereo-rows : (header_row no_header ≡ ascii "  header -")
    × (header_row (record { there = 1; iid = 1; iidmode = 4; icc = 0; iccmode = 0; ext = 1 }) ≡ ascii "  header iid 4 icc - ext 1")
    × (frame_row (record { class = 1; envelopes = 2; borders = 7 ∷ 4294967295 ∷ 0 ∷ 0 ∷ [] }) ≡ ascii "  class 1 borders 7 4294967295")
    × (part_row 2 (record { body = no_body; count = 5; value = 6 }) ≡ ascii "  extension size 2 phase 0 fill 00110")
    × (part_row 1 (record { body = no_body; count = 0; value = 0 }) ≡ ascii "  extension size 1 phase 0 fill -")
    × (extension_row no_extension ≡ ascii "  extension -")
unfolding number_text form_text each next_number header_row frame_row part_row extension_row fill_text no_header no_body no_extension
stereo-rows = (refl, refl, refl, refl, refl, refl)

-- one envelope, whose level was coded across time
abbrev one : Contents
one =
    record {
      header = no_header;
      frame = no_frame;
      iid = record { time = 1; indices = pos 3 ∷ negsuc 14 ∷ pos 0 ∷ negsuc 0 ∷ [] } ∷ [];
      icc = no_row ∷ [];
      extension = no_extension;
    }

envelope-rows : (iid_row one 0 ≡ ascii "  iid 3 -15 0 -1")
    × (envelope_row one (record { iid = true; icc = true; ext = false; iidmode = 1; iccmode = 0 }) 0
    ≡ ascii "  envelope 0 iid t icc f ipd - opd -")
unfolding number_text form_text signed_text each next_index iid_row envelope_row no_row no_phases no_body no_part no_extension
envelope-rows = (refl, refl)

state-rows : (state_row fresh ≡ ascii "  state iid - icc - enabled 0 0 0 step 1")
    × (iid_record fresh ≡ ascii "  record iid -")
    × (record_row (ascii "  record ipd #") (record { mode = 2; indices = pos 7 ∷ negsuc 0 ∷ [] }) ≡ ascii "  record ipd 2 7 -1")
unfolding number_text form_text signed_text each next_index state_row record_row fresh fresh_setup none
state-rows = (refl, refl, refl)
