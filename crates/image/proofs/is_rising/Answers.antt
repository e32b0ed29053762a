-- The loop stops at the first offset that falls; if it does not stop, none does.
use Prim.Native.Nat.{◌+◌, ◌*◌, ◌-◌, ◌<◌, ◌≤◌}
use mathlib.Core.Path.{◌≡◌, sym, ◌∙◌}
use native.Mathlib.Omega.{arith}
use Rattle.image.specs.Image.{pair_at}
use Rattle.image.proofs.RisingLaws.{rising-more, rising-stop, rising-done}
use Rattle.image.proofs.is_rising.Goals as goal

pub loop-k-init : goal.loop-k-init
loop-k-init c = let q : c.args.n - 0 ≡ c.args.n = omega arith in rw q

pub returns-then-pair_at : goal.returns-then-pair_at
returns-then-pair_at c =
    let l = c.loop-k in
    let x = c.args in
    let h : pair_at x.image.now (2 * l.k + 6) < pair_at x.image.now (2 * l.k + 4) =
    rw (← c.pair_at.ensures.0, ← c.pair_at-in-loop-k.ensures.0) c.if-pair_at.true in
    sym (l.invariant ∙ rising-stop x.image.now l.k x.n c.loop-k-test.true h)

pub loop-k-preserved : goal.loop-k-preserved
loop-k-preserved c =
    let l = c.loop-k in
    let x = c.args in
    let h : pair_at x.image.now (2 * l.k + 4) ≤ pair_at x.image.now (2 * l.k + 6) =
    rw (← c.pair_at.ensures.0, ← c.pair_at-in-loop-k.ensures.0) c.if-pair_at.false in
    l.invariant ∙ rising-more x.image.now l.k x.n c.loop-k-test.true h

pub returns : goal.returns
returns c =
    let l = c.loop-k in
    let x = c.args in
    sym (l.invariant ∙ rising-done x.image.now l.k x.n c.loop-k-test.false)
