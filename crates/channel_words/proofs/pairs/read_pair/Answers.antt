-- The window that holds the word holds its sign bits after it; where they are not all there, the first that is not stands at the end.
use Prim.Native.Nat.{◌+◌, ◌*◌, ◌-◌}
use mathlib.Core.Path.{◌≡◌, refl, sym, ◌∙◌, ap}
use native.Mathlib.Omega.{arith}
use lib.IntN.{pos}
use Rattle.bits.specs.Reader.{got}
use Rattle.words.specs.InnerLookup.{looked}
use Rattle.channel_words.specs.InnerWords.{kind, signs}
use Rattle.channel_words.specs.Tuple.{digit}
use Rattle.channel_words.proofs.ValueLaws.{sign_found, two_as, unsigned-two, unsigned-two-cut, Digits, pair_digits}
use Rattle.channel_words.proofs.pairs.read_pair.Goals as goal

pub returns-then-s-at-clause-values : goal.returns-then-s-at-clause-values
returns-then-s-at-clause-values c =
    let x = c.args in
    let w = c.in_ok-entry in
    let word : looked x.look.now x.bits x.s.now.bytes.now x.at x.s.now.end ≡ got w.entry w.after_word = sym w.ensures.word in
    let d : Digits x.base w.entry = pair_digits _ _ c.requires.1 (c.requires.0.inside _ _ _ _ _ word).3 in
    let i = w.ensures.inside in
    let n = c.first_number-first.ensures in
    let e₁ : c.sign_count.result ≡ signs (digit (kind 2 x.base 0) w.entry 0) = c.sign_count.ensures.0 ∙ ap signs (n ∙ sym d.0) in
    let e₂ : c.sign_count-2.result ≡ signs (digit (kind 2 x.base 0) w.entry 1) = c.sign_count-2.ensures.0 ∙ ap signs (rw n (sym d.1)) in
    rw c.refused.ensures (sym (unsigned-two-cut _ _ _ _ word i.0 i.1 i.2 _ (omega (arith, e₁, e₂, c.if-s-at.true))))

pub returns-clause-values : goal.returns-clause-values
returns-clause-values c =
    let x = c.args in
    let w = c.in_ok-entry in
    let word : looked x.look.now x.bits x.s.now.bytes.now x.at x.s.now.end ≡ got w.entry w.after_word = sym w.ensures.word in
    let d : Digits x.base w.entry = pair_digits _ _ c.requires.1 (c.requires.0.inside _ _ _ _ _ word).3 in
    let i = w.ensures.inside in
    let n = c.first_number-first.ensures in
    let k = kind 2 x.base 0 in
    let f₁ : c.first_number-first.result ≡ digit k w.entry 0 = n ∙ sym d.0 in
    let f₂ : w.entry - x.base * c.first_number-first.result ≡ digit k w.entry 1 = rw n (sym d.1) in
    let e₁ = c.sign_count.ensures.0 ∙ ap signs f₁ in
    let e₂ = c.sign_count-2.ensures.0 ∙ ap signs f₂ in
    let window = c.window-w.ensures in
    let p₁ = w.after_word - x.at in
    let p₂ = p₁ + signs (digit k w.entry 0) in
    two_as (pos 0) (pos 0)
    (sign_found _ _ _ _ {j = p₁} (rw f₁) c.bit_of.ensures window refl)
    (sign_found _ _ _ _ {j = p₂} (rw f₂) c.bit_of-2.ensures window (omega (arith, e₁)))
    (omega (arith, e₁, e₂))
    ∙ sym (unsigned-two _ _ _ _ word i.0 i.1 i.2 _ (omega (arith, e₁, e₂, c.if-s-at.false)))
