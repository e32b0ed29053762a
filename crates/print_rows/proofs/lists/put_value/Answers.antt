-- A line that is 0 has no text; else its place, and its value after it. A place below 1,024 has four digits, a value of 16 bits five.
-- Assumes nothing.
use Prim.Native.Nat.{◌≤◌}
use mathlib.Core.Path.{◌≡◌, ap}
use mathlib.Core.List.{[], ◌∷◌}
use native.Mathlib.Omega.{arith}
use borrow.Author.Tests.{eq-eqb, ne_eqb}
use lib.IntN.{nat_abs}
use lib.Signed.{nat_abs-le}
use mir.Syntax.{w16}
use mir.ValLaws.{to_z-of_z}
use Rattle.print_lines.specs.InnerText.{Line, line_of, with_text, line}
use Rattle.print_lines.proofs.TextLaws.{text_most, after}
use Rattle.print_rows.specs.InnerSigned.{signed_text}
use Rattle.print_rows.specs.InnerEach.{value_text}
use Rattle.print_rows.proofs.EachLaws.{value-few}
use Rattle.print_rows.proofs.lists.put_value.Goals as goal

pub returns-then-magnitude-eq0 : goal.returns-then-magnitude-eq0
unfolding value_text with_text
returns-then-magnitude-eq0 c =
    let z = c.args.value in
    let same = to_z-of_z w16 z c.ranges.value in
    let none : nat_abs z ≡ 0 = rw (c.magnitude.ensures, same) at c.if-magnitude-eq0.true in
    (rw (eq-eqb (nat_abs z) 0 none), omega arith)

pub returns : goal.returns
unfolding value_text
returns c =
    let a = c.args in
    let z = a.value in
    let same = to_z-of_z w16 z c.ranges.value in
    let l = line_of a.line.now a.at in
    let text = after l (line " #:" (a.place ∷ [])) (signed_text z) c.put_form-to.ensures (rw same at c.put_signed.ensures) in
    let some : nat_abs z ≡ 0 → ⊥ = rw (c.magnitude.ensures, same) at c.if-magnitude-eq0.false in
    let small : nat_abs z ≤ 32768 = nat_abs-le z c.ranges.value.sfits in
    let whole : line_of c.put_signed.new.line c.put_signed.result ≡ with_text l (value_text a.place z) =
    rw (ne_eqb (nat_abs z) 0 some) text in
    let most = text_most l (value_text a.place z) in
    let at = ap (λ (x : Line). x.at) whole in
    (whole, omega (arith, value-few a.place z c.requires small))
