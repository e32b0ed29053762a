-- Each turn adds the group that starts at the next window, to those that are found.
use mathlib.Core.Path.{refl}
use mathlib.Core.List.{[], ◌∷◌, ◌++◌}
use native.Mathlib.Omega.{arith}
use Rattle.channel_bands.proofs.GroupingLaws.{found_none, found-more, found_all, groups-short, groups-long, groups_none}
use Rattle.channel_bands.proofs.grouping.groups_of.Goals as goal

pub returns-then-not-short : goal.returns-then-not-short
returns-then-not-short c =
    let x = c.args in
    let e = groups-long x.short x.grouping c.if-not-short.true in
    rw e (refl, refl, omega arith, omega arith)

pub loop-from-init : goal.loop-from-init
loop-from-init c = (omega arith, omega arith, omega arith, ([], found_none (groups-short _ _ c.if-not-short.false)))

pub overflow_cast-windows : goal.overflow_cast-windows
overflow_cast-windows c = let g = c.group_length-n.ensures in omega arith

pub overflow_add-from : goal.overflow_add-from
overflow_add-from c = let g = c.group_length-n.ensures in omega arith

pub loop-from-smaller : goal.loop-from-smaller
loop-from-smaller c = let g = c.group_length-n.ensures in omega arith

pub loop-from-preserved : goal.loop-from-preserved
loop-from-preserved c =
    let found = c.loop-from.invariant.3 in
    let g = c.group_length-n.ensures in
    (omega arith, omega arith, omega arith, (found.0 ++ c.group_length-n.result ∷ [], found-more (omega arith) g.0 found.1))

pub returns : goal.returns
returns c =
    let all = found_all (groups_none _ _ c.loop-from-test.false) c.loop-from.invariant.3.1 in
    (all.0, all.1, omega arith, omega arith)
