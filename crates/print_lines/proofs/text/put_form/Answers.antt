-- Each turn puts what stands for the next byte: what is put so far and what is left of the form make all of it.
-- Assumes nothing.
use Prim.Native.Nat.{◌+◌}
use mathlib.Core.Path.{refl, sym, ap, ◌∙◌}
use native.Mathlib.Omega.{arith}
use lib.ListN.{drop, drop_of_length-le}
use Rattle.print_lines.specs.InnerText.{Line, line_of, with_text, form_text}
use Rattle.print_lines.proofs.TextLaws.{form-mark, form-byte}
use Rattle.print_lines.proofs.text.put_form.Goals as goal
use Rattle.print_lines.proofs.text.put_form.Goals.{then-byte-eq35, else-byte-eq35}

pub loop-byte-preserved : goal.loop-byte-preserved
loop-byte-preserved c =
    let l = c.loop-byte in
    let i = l.byte-index in
    let form = c.args.form.now in
    let numbers = c.args.numbers.now in
    let so-far = line_of l.line l.to in
    let here = c.loop-byte-test.true in
    elim c.if-byte-eq35.branch [
      | then-byte-eq35 w ↦ (
        omega (arith, w.place-is),
        rw w.place-is
            (ap (λ (x : Line). with_text x (form_text (drop (i + 1) form) (drop (l.place + 1) numbers))) c.put_marked-to.ensures
            ∙ sym (form-mark so-far form numbers i l.place here w.if-byte-eq35.true)
            ∙ l.invariant.1),
      )
      | else-byte-eq35 w ↦ (
        omega (arith, w.place-is),
        rw w.place-is
            (ap (λ (x : Line). with_text x (form_text (drop (i + 1) form) (drop l.place numbers))) c.put_marked-to.ensures
            ∙ sym (form-byte so-far form numbers i l.place here w.if-byte-eq35.false)
            ∙ l.invariant.1),
      )
    ]

pub returns : goal.returns
unfolding with_text form_text
returns c =
    let l = c.loop-byte in
    let form = c.args.form.now in
    rw (drop_of_length-le form {i = l.byte-index} c.loop-byte-test.false) at l.invariant.1

pub loop-byte-init : goal.loop-byte-init
loop-byte-init c = (omega arith, refl)
