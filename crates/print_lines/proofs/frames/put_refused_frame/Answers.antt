-- The form, and the place after it; both fit.
-- Assumes nothing.
use mathlib.Core.List.{[], ◌∷◌}
use mathlib.Core.Bool.{true}
use native.Mathlib.Omega.{arith}
use Rattle.print_lines.specs.InnerText.{ascii, line}
use Rattle.print_lines.specs.InnerPlaces.{place_text}
use Rattle.print_lines.specs.InnerFrames.{refused_frame}
use Rattle.print_lines.proofs.TextLaws.{form_short, two-held}
use Rattle.print_lines.proofs.PlaceLaws.{place_short}
use Rattle.print_lines.proofs.frames.put_refused_frame.Goals as goal

pub returns : goal.returns
unfolding refused_frame
returns c =
    let a = c.args in
    let numbers = a.k ∷ a.byte ∷ a.number ∷ [] in
    two-held a.line.now (line "# frame at # refused #" numbers) (place_text true a.number a.place) c.put_form-at.ensures
    c.put_place.ensures
    (omega (arith, form_short (ascii "# frame at # refused #") numbers, place_short true a.number a.place, c.requires))
