-- Each turn reads one bit; the ninth one is refused where the definition's count runs out.
use mathlib.Core.Path.{◌≡◌, sym, ◌∙◌}
use borrow.Author.Rules.{rules}
use Rattle.bits.specs.Reader.{refused}
use Rattle.bits.specs.InnerAnswers.{answer_of}
use Rattle.words.proofs.EscapeLaws.{ones-short, ones-last, ones-more, ones-nine}
use Rattle.words.proofs.escape.read_ones.Goals as goal

pub returns-in_err-one : goal.returns-in_err-one
returns-in_err-one c =
    let e : answer_of c.from_residual.result ≡ refused c.in_err-one.field-0.0.number c.in_err-one.field-0.0.place = search rules in
    let l = c.loop-n in
    e ∙ sym (l.invariant ∙ ones-short l.n c.args.s.now.bytes.now l.place c.args.s.now.end _ _ c.loop-n-test.true (sym c.in_err-one.ensures))

pub returns-then-one-ne1 : goal.returns-then-one-ne1
returns-then-one-ne1 c =
    let l = c.loop-n in
    sym (l.invariant ∙ ones-last l.n c.args.s.now.bytes.now l.place c.args.s.now.end _ _ c.loop-n-test.true
    (sym c.in_ok-one.ensures) c.if-one-ne1.true)

pub loop-n-preserved : goal.loop-n-preserved
loop-n-preserved c =
    let l = c.loop-n in
    l.invariant ∙ ones-more l.n c.args.s.now.bytes.now l.place c.args.s.now.end _ _ c.loop-n-test.true
    (sym c.in_ok-one.ensures) c.if-one-ne1.false

pub returns : goal.returns
returns c =
    let l = c.loop-n in
    rw c.refused.ensures
    (sym (l.invariant ∙ ones-nine l.n c.args.s.now.bytes.now l.place c.args.s.now.end c.loop-n-test.false))
