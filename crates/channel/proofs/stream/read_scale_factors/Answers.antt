-- There are as many factors as groups times bands, and no more than 120.
use Prim.Native.Nat.{◌*◌, ◌≤◌}
use native.Mathlib.Omega.{arith}
use native.Mathlib.Nat.{le_trans}
use Rattle.channel_bands.proofs.BandLaws.{bands-most}
use Rattle.channel_bands.proofs.GroupingLaws.{groups-room}
use Rattle.channel_side.specs.Window.{is_short, max_sfb}
use Rattle.channel.proofs.StreamLaws.{factors-is}
use Rattle.channel.proofs.stream.read_scale_factors.Goals as goal

pub read_factors-requires : goal.read_factors-requires
read_factors-requires c =
    let w = c.args.head.window in
    let g = c.groups_of-groups.ensures in
    let room : c.groups_of-groups.result.count * max_sfb w ≤ 120 =
    groups-room (is_short w) w.grouping _ _ g.0 g.3 (le_trans c.requires.0 (bands-most _ _)) in
    (room, omega arith)

pub returns : goal.returns
returns c =
    let h = c.args.head in
    factors-is h.gain h.window _ _ _ _ _ _ c.groups_of-groups.ensures.0 c.requires.1 c.read_factors.ensures
