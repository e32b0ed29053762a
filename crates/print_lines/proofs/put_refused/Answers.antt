-- The refusal, and its place after it; both fit.
-- Assumes nothing.
use native.Mathlib.Omega.{arith}
use Rattle.print_lines.specs.InnerListing.{refusal_text, refused_line}
use Rattle.print_lines.specs.InnerPlaces.{place_text}
use Rattle.print_lines.proofs.TextLaws.{two-held}
use Rattle.print_lines.proofs.PlaceLaws.{refusal-short, place_short}
use Rattle.print_lines.proofs.put_refused.Goals as goal

pub returns : goal.returns
unfolding refused_line
returns c =
    let a = c.args in
    two-held a.line.now (refusal_text a.k a.number) (place_text a.told a.number a.place) c.put_refusal-at.ensures
    c.put_place.ensures
    (omega (arith, refusal-short a.k a.number, place_short a.told a.number a.place, c.requires))
