-- The numbers and their sign bits, then the escapes of those that are the flag: the first refusal stands.
use mathlib.Core.Path.{◌≡◌, sym, ◌∙◌}
use mir.Syntax.{w16}
use mir.ValLaws.{to_z-of_z}
use borrow.Author.Rules.{rules}
use Rattle.bits.specs.InnerAnswers.{ended_answer}
use Rattle.bits.specs.Reader.{refused}
use Rattle.channel_words.proofs.MagnitudeLaws.{first-refused, second-refused, escaped-got}
use Rattle.channel_words.proofs.pairs.UnsignedPairKind.read.Goals as goal

pub returns-in_err-first : goal.returns-in_err-first
returns-in_err-first c =
    let r = c.in_err-first in
    let e : ended_answer c.from_residual-in_err-first.result c.args.lines.now ≡ refused r.field-0.0.number r.field-0.0.place =
    search rules in
    e ∙ sym (first-refused _ _ _ _ _ _ _ _ _ _ _ (sym c.in_ok-pair.ensures.values) (sym r.ensures.magnitude))

pub returns-in_err-second : goal.returns-in_err-second
returns-in_err-second c =
    let r = c.in_err-second in
    let e : ended_answer c.from_residual-in_err-second.result c.args.lines.now ≡ refused r.field-0.0.number r.field-0.0.place =
    search rules in
    e ∙ sym (second-refused _ _ _ _ _ _ _ _ _ _ _ (sym c.in_ok-pair.ensures.values) (sym c.in_ok-first.ensures.magnitude)
    (sym r.ensures.magnitude))

pub returns : goal.returns
returns c =
    rw (
      to_z-of_z w16 _ (record { sfits = c.with_sign.type_inv }),
      c.with_sign.ensures,
      to_z-of_z w16 _ (record { sfits = c.with_sign-2.type_inv }),
      c.with_sign-2.ensures,
    )
    (sym (escaped-got _ _ _ _ _ _ _ _ _ _ _ (sym c.in_ok-pair.ensures.values) (sym c.in_ok-first.ensures.magnitude)
    (sym c.in_ok-second.ensures.magnitude)))
