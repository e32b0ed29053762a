-- After each turn the offsets of so many streams stand at the place.
-- Assumes nothing.
use Prim.Native.Nat.{◌+◌, ◌*◌}
use mathlib.Core.Path.{◌≡◌, refl}
use mathlib.Core.List.{[], ◌++◌}
use native.Mathlib.Omega.{arith}
use lib.ListN.{get_or}
use Rattle.bits.proofs.OverLaws.{Put, put-none, put_next, put_as}
use Rattle.import.specs.InnerHeading.{pair_of, start_of, offsets_of}
use Rattle.import.proofs.HeadingLaws.{offsets_none, offsets_more, both_long}
use Rattle.import.proofs.heading.put_offsets.Goals as goal

pub loop-k-init : goal.loop-k-init
loop-k-init c =
    let a = c.args in
    let none = offsets_none a.base a.ends.now in
    put_as a.image.now a.at [] _ 0 0 (put-none a.image.now a.at) none refl

pub loop-k-preserved : goal.loop-k-preserved
loop-k-preserved c =
    let l = c.loop-k in
    let a = c.args in
    let ends = a.ends.now in
    let ys = pair_of (a.base + start_of ends l.k) ++ pair_of (a.base + get_or ends l.k 0) in
    let placed : Put l.image (a.at + 4 * l.k) ys 4 c.put_both.new.image =
    (c.put_both.ensures, both_long (a.base + start_of ends l.k) (a.base + get_or ends l.k 0)) in
    let next = put_next a.image.now a.at (offsets_of a.base ends l.k) (4 * l.k) ys 4 l.invariant placed (omega arith) in
    put_as a.image.now a.at _ _ _ _ next (offsets_more a.base ends l.k) (omega arith)

pub returns : goal.returns
returns c =
    let l = c.loop-k in
    let e : l.k ≡ c.args.count = omega arith in
    rw e at l.invariant.0
