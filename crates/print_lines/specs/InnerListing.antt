-- For contracts of inner functions only: the lines of a listing. Of a bad image there is one; of a good one the count, and a line a
-- payload from its five numbers in the outline.
use Rattle.std.specs.Prelude.{ℕ, ◌%◌, List, [], ◌∷◌, ◌++◌, Bool, eqb}
use Rattle.bits.specs.Reader.{pick}
use Rattle.print_lines.specs.InnerText.{line}
use Rattle.print_lines.specs.InnerPlaces.{place_text}
use Rattle.print_lines.specs.declared.Payload.{Payload}

unfoldable pub refused_image : ℕ → List ℕ
refused_image number = line "image refused #" (number ∷ [])

unfoldable pub payload_count : ℕ → List ℕ
payload_count count = line "payloads #" (count ∷ [])

-- an even payload is a channel stream, an odd one a stereo payload
unfoldable pub refusal_text : ℕ → ℕ → List ℕ
refusal_text k number =
    pick (eqb (k % 2) 0) (line "# channel refused #" (k ∷ number ∷ [])) (line "# stereo refused #" (k ∷ number ∷ []))

-- the place is told, or is not
unfoldable pub refused_line : Bool → ℕ → ℕ → ℕ → List ℕ
refused_line told k number place = refusal_text k number ++ place_text told number place

-- gain, non-zero lines and bits used; or envelopes and bits used
unfoldable pub accepted_line : ℕ → ℕ → ℕ → ℕ → List ℕ
accepted_line k first second bits =
    pick (eqb (k % 2) 0) (line "# channel gain # lines # bits #" (k ∷ first ∷ second ∷ bits ∷ []))
    (line "# stereo envelopes # bits #" (k ∷ first ∷ bits ∷ []))

-- of a payload's five numbers the first is its refusal, or 0
unfoldable pub payload_line : Bool → ℕ → Payload → List ℕ
payload_line told k p =
    pick (eqb p.number 0) (accepted_line k p.first p.second p.bits) (refused_line told k p.number p.place)
