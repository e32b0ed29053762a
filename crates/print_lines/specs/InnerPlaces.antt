-- For contracts of inner functions only: the place of a refusal, which stands after its number where it is told.
use Rattle.std.specs.Prelude.{ℕ, List, [], ◌∷◌, Bool, ◌&&◌, ◌||◌, eqb, leb}
use Rattle.bits.specs.Reader.{pick}
use Rattle.print_lines.specs.InnerText.{line}

-- a refusal that judged a bit of a payload or of a frame: 10 to 35, and 53
abbrev pub judged_bit : ℕ → Bool
judged_bit number = (leb 10 number && leb number 35) || eqb number 53

unfoldable pub place_text : Bool → ℕ → ℕ → List ℕ
place_text told number place = pick (told && judged_bit number) (line " at #" (place ∷ [])) []
