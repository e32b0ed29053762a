-- The groups of short windows, or the one group that a long window is.
use mathlib.Core.Path.{◌∙◌}
use native.Mathlib.Omega.{arith}
use Rattle.channel_bands.proofs.BandLaws.{of_short, of_long, rising-up}
use Rattle.channel_bands.proofs.GroupingLaws.{groups-short}
use Rattle.channel_lines.proofs.SpectrumLaws.{lines_long}
use Rattle.channel_lines.proofs.lines.read_lines.Goals as goal

pub read_groups-requires : goal.read_groups-requires
read_groups-requires c =
    let r = c.requires in
    let w = of_short _ c.if-short.true in
    (rising-up _ _ 128 (omega arith) r.0, r.1, omega arith)

pub returns-then-short : goal.returns-then-short
returns-then-short c = c.read_groups.ensures ∙ rw (groups-short _ _ c.if-short.true)

pub read_group-requires : goal.read_group-requires
read_group-requires c =
    let r = c.requires in
    let w = of_long _ c.if-short.false in
    (rising-up _ _ 1024 (omega arith) r.0, r.1, omega arith, omega arith)

pub returns : goal.returns
returns c = c.read_group.ensures ∙ lines_long _ _ _ _ _ _ _ _ _ c.if-short.false
