-- For contracts of inner functions only: the lines of an ADTS file's frames, and those that say why no image is made of one.
use Rattle.std.specs.Prelude.{ℕ, List, [], ◌∷◌, ◌++◌, true}
use Rattle.print_lines.specs.InnerText.{line}
use Rattle.print_lines.specs.InnerPlaces.{place_text}

-- the k-th frame, which starts at a byte
unfoldable pub frame_line : ℕ → ℕ → ℕ → ℕ → ℕ → ℕ → ℕ → List ℕ
frame_line k byte size index gain lines bits =
    line "# frame at # length # index # channel gain # lines # bits #" (k ∷ byte ∷ size ∷ index ∷ gain ∷ lines ∷ bits ∷ [])

unfoldable pub refused_frame : ℕ → ℕ → ℕ → ℕ → List ℕ
refused_frame k byte number place = line "# frame at # refused #" (k ∷ byte ∷ number ∷ []) ++ place_text true number place

-- a frame that no image takes: it is refused; its sampling index is not the first frame's; it is one too many, or too long
unfoldable pub refused_fault : ℕ → ℕ → ℕ → List ℕ
refused_fault k byte number = line "oarcradler: frame # at # refused #" (k ∷ byte ∷ number ∷ [])

unfoldable pub index_fault : ℕ → ℕ → ℕ → ℕ → List ℕ
index_fault k byte index first = line "oarcradler: frame # at # has index #, the first frame has #" (k ∷ byte ∷ index ∷ first ∷ [])

unfoldable pub count_fault : ℕ → ℕ → List ℕ
count_fault k byte = line "oarcradler: frame # at # is one too many: an image has at most 1024 payloads" (k ∷ byte ∷ [])

unfoldable pub size_fault : ℕ → ℕ → List ℕ
size_fault k byte = line "oarcradler: frame # at # is too much: an image has at most 65535 bytes" (k ∷ byte ∷ [])
