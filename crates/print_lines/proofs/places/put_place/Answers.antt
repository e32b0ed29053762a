-- By the two tests of the definition: nothing is put, or the form is.
-- Assumes nothing.
use mathlib.Core.Path.{sym, ◌∙◌}
use Rattle.print_lines.specs.InnerText.{with_text}
use Rattle.print_lines.specs.InnerPlaces.{place_text}
use Rattle.print_lines.proofs.places.put_place.Goals as goal

pub returns-then-not-told : goal.returns-then-not-told
unfolding place_text with_text
returns-then-not-told c = rw c.if-not-told.true

pub returns-then-not-judged_bit : goal.returns-then-not-judged_bit
unfolding place_text with_text
returns-then-not-judged_bit c =
    let no = sym c.judged_bit.ensures ∙ c.if-not-judged_bit.true in
    rw (c.if-not-told.false, no)

pub returns : goal.returns
unfolding place_text
returns c =
    let yes = sym c.judged_bit.ensures ∙ c.if-not-judged_bit.false in
    rw (c.if-not-told.false, yes) c.put_form.ensures
