-- A word a turn, read into the lines after those of the words before it.
use Prim.Native.Nat.{ℕ, ◌+◌, ◌*◌}
use mathlib.Core.Path.{◌≡◌, sym, ◌∙◌}
use borrow.Author.Rules.{rules}
use Rattle.bits.specs.InnerAnswers.{ended_answer}
use Rattle.bits.specs.Reader.{refused}
use Rattle.bits.proofs.LoopLaws.{counted_start, counted-more, counted_stop, counted-done}
use Rattle.channel_words.proofs.bands.read_words.Goals as goal

pub loop-t-init : goal.loop-t-init
loop-t-init g c = counted_start _ _ _ _ _ _

pub returns-in_err-place : goal.returns-in_err-place
returns-in_err-place g c =
    let x = c.args in
    let f = λ (t : ℕ). g.K.Kind.word x.kind.now x.look.now x.bits (x.first + t * g.K.Kind.SIZE) in
    let e : ended_answer c.from_residual.result c.read.new.lines ≡ refused c.in_err-place.field-0.0.number c.in_err-place.field-0.0.place =
    search rules in
    let q = rw c.SIZE.ensures at c.in_err-place.ensures in
    e ∙ sym (c.loop-t.invariant ∙ counted_stop f _ _ _ _ _ _ _ _ c.loop-t-test.true (sym q))

pub loop-t-preserved : goal.loop-t-preserved
loop-t-preserved g c =
    let x = c.args in
    let f = λ (t : ℕ). g.K.Kind.word x.kind.now x.look.now x.bits (x.first + t * g.K.Kind.SIZE) in
    let q = rw c.SIZE.ensures at c.in_ok-place.ensures in
    c.loop-t.invariant ∙ counted-more f _ _ _ _ _ _ _ _ c.loop-t-test.true (sym q)

pub returns : goal.returns
returns g c = sym (c.loop-t.invariant ∙ counted-done _ _ _ _ _ _ _ c.loop-t-test.false)
