-- For contracts of inner functions only: the rows of a dump about a stereo payload's header, frame and extension.
use Rattle.std.specs.Prelude.{ℕ, ◌+◌, List, [], ◌∷◌, ◌++◌, eqb, take}
use Rattle.bits.specs.Reader.{pick}
use Rattle.stereo.specs.declared.Header.{Header}
use Rattle.stereo.specs.declared.Frame.{Frame}
use Rattle.stereo.specs.declared.Part.{Part}
use Rattle.stereo.specs.declared.Extension.{Extension}
use Rattle.print_lines.specs.InnerText.{ascii, line}
use Rattle.print_rows.specs.InnerEach.{numbers_text}
use Rattle.print_rows.specs.InnerFill.{fill_text}
use Rattle.print_rows.specs.InnerMarks.{mode_mark}

unfoldable pub header_row : Header → List ℕ
header_row h =
    pick (eqb h.there 1)
    (line "  header iid # icc # ext #" (mode_mark (eqb h.iid 1) h.iidmode ∷ mode_mark (eqb h.icc 1) h.iccmode ∷ h.ext ∷ []))
    (ascii "  header -")

-- a border for each envelope, where they are variable
abbrev pub border_count : Frame → ℕ
border_count f = pick (eqb f.class 1) f.envelopes 0

unfoldable pub frame_row : Frame → List ℕ
frame_row f = line "  class # borders" (f.class ∷ []) ++ numbers_text (take (border_count f) f.borders)

-- an announced part that is empty has neither phase flag nor fill bits
unfoldable pub part_row : ℕ → Part → List ℕ
part_row size p =
    pick (eqb size 0) (line "  extension size #" (size ∷ []))
    (line "  extension size # phase # fill " (size ∷ p.body.phase ∷ []) ++ fill_text p.value p.count)

unfoldable pub extension_row : Extension → List ℕ
extension_row x = pick (eqb x.there 1) (part_row (x.size + x.esc) x.part) (ascii "  extension -")
