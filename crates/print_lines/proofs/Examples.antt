-- The lines of the rules' listing, of a bad image, and of frames of an ADTS file, computed.
-- Assumes nothing.
use mathlib.Core.Path.{◌≡◌, refl}
use Rattle.print_lines.specs.InnerText.{ascii, number_text, form_text}
use mathlib.Core.Bool.{true, false}
use Prim.Native.Nat.{ℕ}
use Rattle.print_lines.specs.InnerListing.{refused_image, payload_count, refusal_text, refused_line, accepted_line, payload_line}
use Rattle.print_lines.specs.InnerPlaces.{place_text}
use Rattle.print_lines.specs.declared.Payload.{Payload}
use Rattle.print_lines.specs.InnerFrames.{frame_line, refused_frame, refused_fault, index_fault}

-- a payload with these numbers
abbrev row : ℕ → ℕ → ℕ → ℕ → ℕ → Payload
row number place first second bits = record { number = number; place = place; first = first; second = second; bits = bits }

-- the listing tells no place, the dump does
listing : (payload_count 4 ≡ ascii "payloads 4")
    × (payload_line false 0 (row 0 0 100 0 22) ≡ ascii "0 channel gain 100 lines 0 bits 22")
    × (payload_line false 1 (row 0 0 0 0 4) ≡ ascii "1 stereo envelopes 0 bits 4")
    × (payload_line false 2 (row 10 15 0 0 0) ≡ ascii "2 channel refused 10")
    × (payload_line true 2 (row 10 15 0 0 0) ≡ ascii "2 channel refused 10 at 15")
    × (payload_line true 3 (row 35 0 0 0 0) ≡ ascii "3 stereo refused 35 at 0")
    × (payload_line true 1 (row 4 0 0 0 0) ≡ ascii "1 stereo refused 4")
unfolding number_text form_text payload_count place_text refusal_text refused_line accepted_line payload_line
listing = (refl, refl, refl, refl, refl, refl, refl)

bad_image : refused_image 5 ≡ ascii "image refused 5"
unfolding number_text form_text refused_image
bad_image = refl

-- one past 4 GiB among them
frames : (refused_frame 0 0 53 56 ≡ ascii "0 frame at 0 refused 53 at 56")
    × (refused_frame 0 0 51 0 ≡ ascii "0 frame at 0 refused 51")
    × (frame_line 1 28 442 4 149 564 3464 ≡ ascii "1 frame at 28 length 442 index 4 channel gain 149 lines 564 bits 3464")
    × (refused_frame 20000000 6000000000 10 65520 ≡ ascii "20000000 frame at 6000000000 refused 10 at 65520")
unfolding number_text form_text place_text refused_frame frame_line
frames = (refl, refl, refl, refl)

faults : (refused_fault 3 1326 20 ≡ ascii "oarcradler: frame 3 at 1326 refused 20")
    × (index_fault 3 1326 6 4 ≡ ascii "oarcradler: frame 3 at 1326 has index 6, the first frame has 4")
unfolding number_text form_text refused_fault index_fault
faults = (refl, refl)
