-- By the mode; the form, and 34 indices after it.
-- Assumes nothing.
use mathlib.Core.Path.{◌≡◌}
use mathlib.Core.List.{[], ◌∷◌}
use native.Mathlib.Omega.{arith}
use borrow.Author.Tests.{eq-eqb, ne_eqb}
use lib.ListN.{length}
use Rattle.print_lines.specs.InnerText.{form_text}
use Rattle.print_lines.proofs.TextLaws.{form_short, two-held}
use Rattle.print_rows.specs.InnerEach.{indices_text}
use Rattle.print_rows.specs.InnerStateRows.{record_row}
use Rattle.print_rows.proofs.EachLaws.{indices-short}
use borrow.Author.Rules.{rules}
use Rattle.print_rows.proofs.records.put_record.Goals as goal

pub returns-then-rec-eq7 : goal.returns-then-rec-eq7
unfolding record_row
returns-then-rec-eq7 c = rw (eq-eqb _ _ c.if-rec-eq7.true) c.put_line.ensures

pub returns : goal.returns
unfolding record_row
returns c =
    let a = c.args in
    let r = a.rec in
    let long : 34 ≡ length r.indices = search rules in
    rw (ne_eqb _ _ c.if-rec-eq7.false)
    (two-held a.line.now (form_text a.form.now (r.mode ∷ [])) (indices_text r.indices) c.put_form-at.ensures
    c.put_indices.ensures
    (omega (arith, form_short a.form.now (r.mode ∷ []), indices-short r.indices, c.requires)))
