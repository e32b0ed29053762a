-- How long what is said of a refusal is at most.
-- Assumes nothing.
use Prim.Native.Nat.{ℕ, ◌%◌, ◌≤◌}
use mathlib.Core.List.{[], ◌∷◌}
use mathlib.Core.Bool.{Bool, true, false, ◌&&◌}
use native.Mathlib.Omega.{arith}
use lib.Dec.{eqb}
use lib.ListN.{length}
use Rattle.bits.specs.Reader.{pick}
use Rattle.print_lines.specs.InnerText.{ascii, line}
use Rattle.print_lines.specs.InnerPlaces.{judged_bit, place_text}
use Rattle.print_lines.specs.InnerListing.{refusal_text}
use Rattle.print_lines.proofs.TextLaws.{form_short}

pub place_short : (told : Bool) (number place : ℕ) → length (place_text told number place) ≤ 100
unfolding place_text
place_short told number place = go (told && judged_bit number)
  where
    go : (b : Bool) → length (pick b (line " at #" (place ∷ [])) []) ≤ 100
    go true = form_short (ascii " at #") (place ∷ [])
    go false = omega arith

pub refusal-short : (k number : ℕ) → length (refusal_text k number) ≤ 380
unfolding refusal_text
refusal-short k number = go (eqb (k % 2) 0)
  where
    go : (b : Bool) → length (pick b (line "# channel refused #" (k ∷ number ∷ [])) (line "# stereo refused #" (k ∷ number ∷ []))) ≤ 380
    go true = form_short (ascii "# channel refused #") (k ∷ number ∷ [])
    go false = omega (arith, form_short (ascii "# stereo refused #") (k ∷ number ∷ []))
