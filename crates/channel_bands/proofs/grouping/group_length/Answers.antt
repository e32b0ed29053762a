-- A grouping bit of 1 makes the group at hand longer by a window; the first 0, or the last window, ends it.
use Prim.Native.Nat.{◌+◌, ◌-◌}
use mathlib.Core.Path.{◌≡◌, ◌∙◌}
use native.Mathlib.Omega.{arith}
use Rattle.channel_bands.proofs.GroupingLaws.{group_begin, group-more, group-stop, group-end}
use Rattle.channel_bands.proofs.grouping.group_length.Goals as goal

pub loop-n-init : goal.loop-n-init
loop-n-init c = group_begin _ _ (omega arith)

pub returns-then-grouping-from-ne1 : goal.returns-then-grouping-from-ne1
returns-then-grouping-from-ne1 c =
    let l = c.loop-n in
    let x = c.args in
    let q : 7 - (x.from + l.n) ≡ 8 - (x.from + l.n) - 1 = omega arith in (
      l.invariant ∙ group-stop (8 - (x.from + l.n)) x.grouping l.n (omega arith) (rw q at c.if-grouping-from-ne1.true),
      omega arith,
      omega arith,
    )

pub loop-n-preserved : goal.loop-n-preserved
loop-n-preserved c =
    let l = c.loop-n in
    let x = c.args in
    let q : 7 - (x.from + l.n) ≡ 8 - (x.from + l.n) - 1 = omega arith in
    let r : 8 - (x.from + l.n) - 1 ≡ 8 - (x.from + (l.n + 1)) = omega arith in
    let more = group-more (8 - (x.from + l.n)) x.grouping l.n (omega arith) (rw q at c.if-grouping-from-ne1.false) in
    rw (← r) (l.invariant ∙ more)

pub returns : goal.returns
returns c =
    let l = c.loop-n in
    let x = c.args in
    let all : l.n ≡ 8 - x.from = omega arith in
    (l.invariant ∙ rw all (group-end (8 - (x.from + (8 - x.from))) x.grouping (8 - x.from) (omega arith)), omega arith, omega arith)
