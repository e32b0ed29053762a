-- The groups that are left are read into the books that are there, one a turn; all groups have room in the books.
use Prim.Native.Nat.{◌+◌, ◌*◌, ◌≤◌}
use native.Mathlib.Omega.{arith}
use native.Mathlib.Nat.{mul-le-mul_right, add-mul, one-mul}
use Rattle.channel_bands.proofs.BandLaws.{most-small}
use Rattle.channel_bands.proofs.GroupingLaws.{groups-room}
use Rattle.channel_side.proofs.sections.read_books.Goals as goal

pub overflow_mul-group : goal.overflow_mul-group
overflow_mul-group c =
    let x = c.args in
    let k = c.loop-group.group in
    let groups = c.groups_of-group-end in
    let room = groups-room x.short x.grouping groups.result.count x.max_sfb groups.ensures.0 groups.ensures.3 c.requires in
    omega (arith, room, mul-le-mul_right {m = k} {n = groups.result.count} x.max_sfb (omega arith))

pub read_group-requires : goal.read_group-requires
read_group-requires c =
    let x = c.args in
    let k = c.loop-group.group in
    let groups = c.groups_of-group-end in
    let room = groups-room x.short x.grouping groups.result.count x.max_sfb groups.ensures.0 groups.ensures.3 c.requires in
    let turn : (k + 1) * x.max_sfb ≤ groups.result.count * x.max_sfb =
    mul-le-mul_right {m = k + 1} {n = groups.result.count} x.max_sfb (omega arith) in
    omega (arith, room, turn, add-mul k 1 x.max_sfb, one-mul x.max_sfb, most-small x.short)
