-- The window that holds the word holds its sign bits after it; where they are not all there, the first that is not stands at the end.
use Prim.Native.Nat.{◌+◌, ◌-◌, ◌/◌, ◌%◌}
use mathlib.Core.Path.{◌≡◌, refl, sym, ◌∙◌}
use native.Mathlib.Omega.{arith}
use mir.Syntax.{w16}
use mir.ValLaws.{to_z-of_z}
use Rattle.bits.specs.Reader.{got}
use Rattle.words.specs.InnerLookup.{looked}
use Rattle.channel_words.specs.InnerWords.{signs}
use Rattle.channel_words.proofs.ValueLaws.{sign_found, four_as, unsigned-four, unsigned-four-cut}
use Rattle.channel_words.proofs.quads.UnsignedQuadKind.read.Goals as goal

pub returns-then-s-at : goal.returns-then-s-at
returns-then-s-at c =
    let x = c.args in
    let w = c.in_ok-entry in
    let word : looked x.look.now x.bits x.s.now.bytes.now x.at x.s.now.end ≡ got w.entry w.after_word = sym w.ensures.word in
    let i = w.ensures.inside in
    rw c.refused.ensures
    (sym (unsigned-four-cut _ _ _ _ word i.0 i.1 i.2 _ _
    (omega (
      arith,
      c.sign_count.ensures.0,
      c.sign_count-2.ensures.0,
      c.sign_count-3.ensures.0,
      c.sign_count-4.ensures.0,
      c.if-s-at.true,
    ))))

pub returns : goal.returns
returns c =
    let x = c.args in
    let w = c.in_ok-entry in
    let word : looked x.look.now x.bits x.s.now.bytes.now x.at x.s.now.end ≡ got w.entry w.after_word = sym w.ensures.word in
    let i = w.ensures.inside in
    let e₁ = c.sign_count.ensures.0 in
    let e₂ = c.sign_count-2.ensures.0 in
    let e₃ = c.sign_count-3.ensures.0 in
    let e₄ = c.sign_count-4.ensures.0 in
    let window = c.window-w.ensures in
    let e = w.entry in
    let p₁ = w.after_word - x.at in
    let p₂ = p₁ + signs (e / 27 % 3) in
    let p₃ = p₂ + signs (e / 9 % 3) in
    let p₄ = p₃ + signs (e / 3 % 3) in
    let q : x.at + (p₁ + c.sign_count.result + c.sign_count-2.result + c.sign_count-3.result + c.sign_count-4.result)
    ≡ x.at + (p₄ + signs (e % 3)) = omega (arith, e₁, e₂, e₃, e₄) in
    four_as x.lines.now x.line
    (sign_found _ _ _ _ {j = p₁} (to_z-of_z w16 _ (record { sfits = c.with_sign.type_inv }) ∙ c.with_sign.ensures)
    c.bit_of.ensures window refl)
    (sign_found _ _ _ _ {j = p₂} (to_z-of_z w16 _ (record { sfits = c.with_sign-2.type_inv }) ∙ c.with_sign-2.ensures)
    c.bit_of-2.ensures window (omega (arith, e₁)))
    (sign_found _ _ _ _ {j = p₃} (to_z-of_z w16 _ (record { sfits = c.with_sign-3.type_inv }) ∙ c.with_sign-3.ensures)
    c.bit_of-3.ensures window (omega (arith, e₁, e₂)))
    (sign_found _ _ _ _ {j = p₄} (to_z-of_z w16 _ (record { sfits = c.with_sign-4.type_inv }) ∙ c.with_sign-4.ensures)
    c.bit_of-4.ensures window (omega (arith, e₁, e₂, e₃)))
    q
    ∙ sym (unsigned-four _ _ _ _ word i.0 i.1 i.2 x.line x.lines.now (omega (arith, e₁, e₂, e₃, e₄, c.if-s-at.false)))
