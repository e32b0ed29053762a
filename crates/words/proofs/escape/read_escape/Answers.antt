-- The ones tell the width of the number after them; every refusal is moved to the escape's first bit.
use Prim.Native.Nat.{◌+◌}
use mathlib.Core.Path.{◌≡◌, sym, ◌∙◌}
use native.Mathlib.Omega.{arith}
use lib.Pow.{pow_mono}
use borrow.Author.Rules.{rules}
use Rattle.bits.proofs.FourBytes.{one_shl}
use Rattle.bits.specs.Reader.{refused}
use Rattle.bits.specs.InnerAnswers.{answer_of}
use Rattle.words.proofs.EscapeLaws.{ones-known, rest_known, escape-cut, escape-short, escape-is}
use Rattle.words.proofs.escape.read_escape.Goals as goal

pub returns-in_err-ones : goal.returns-in_err-ones
returns-in_err-ones c =
    let e : answer_of c.from_residual.result ≡ refused c.in_err-ones.field-0.0.number c.in_err-ones.field-0.0.place = search rules in
    e ∙ sym (escape-cut _ _ _ _ _ (sym (c.in_err-ones.ensures ∙ rw c.read_ones.ensures)))

pub overflow_add-size : goal.overflow_add-size
overflow_add-size c =
    let k = ones-known _ _ _ _ _ _ c.read_ones.ensures c.in_ok-ones.ensures in
    omega (arith, k.1)

pub field-requires : goal.field-requires
field-requires c =
    let k = ones-known _ _ _ _ _ _ c.read_ones.ensures c.in_ok-ones.ensures in
    omega (arith, k.1)

pub returns-in_err-rest : goal.returns-in_err-rest
returns-in_err-rest c =
    let k = ones-known _ _ _ _ _ _ c.read_ones.ensures c.in_ok-ones.ensures in
    let e : answer_of c.from_residual-in_err-rest.result
    ≡ refused c.in_err-rest.field-0.0.number c.in_err-rest.field-0.0.place = search rules in
    e ∙ sym (escape-short _ _ _ _ _ _ _ k.0 (sym (c.in_err-rest.ensures ∙ rw c.field.ensures)))

pub overflow_shl-result : goal.overflow_shl-result
overflow_shl-result c =
    let k = ones-known _ _ _ _ _ _ c.read_ones.ensures c.in_ok-ones.ensures in
    omega (arith, k.1)

pub overflow_add-result : goal.overflow_add-result
overflow_add-result c =
    let k = ones-known _ _ _ _ _ _ c.read_ones.ensures c.in_ok-ones.ensures in
    let r = rest_known _ _ _ _ _ _ _ _ c.field.ensures c.in_ok-rest.ensures in
    let n = c.in_ok-ones.ones + 4 in
    rw (one_shl 32 n (omega (arith, k.1))) (omega (arith, r.1, pow_mono {i = n} {j = 12} (omega (arith, k.1))))

pub returns : goal.returns
returns c =
    let k = ones-known _ _ _ _ _ _ c.read_ones.ensures c.in_ok-ones.ensures in
    let r = rest_known _ _ _ _ _ _ _ _ c.field.ensures c.in_ok-rest.ensures in
    rw (one_shl 32 (c.in_ok-ones.ones + 4) (omega (arith, k.1))) (sym (escape-is _ _ _ _ _ _ _ k.0 r.0))
