-- The four lists stand in the order of the edges, each where the one before ends.
use mathlib.Core.Path.{sym}
use native.Mathlib.Omega.{arith}
use Rattle.channel_bands.specs.Bands.{long34, short34, long67, short67}
use Rattle.channel_bands.specs.InnerBands.{all_edges}
use Rattle.channel_bands.proofs.BandLaws.{bands-short34, bands-short67, bands-long34, bands-long67}
use Rattle.channel_bands.proofs.bands.part_of.Goals as goal

pub returns-then-index-le4 : goal.returns-then-index-le4
unfolding long34 short34 long67 short67 all_edges
returns-then-index-le4 c = (sym (bands-short34 _ _ c.if-short.true c.if-index-le4.true), omega arith, omega arith)

pub returns-then-short : goal.returns-then-short
unfolding long34 short34 long67 short67 all_edges
returns-then-short c = (sym (bands-short67 _ _ c.if-short.true c.if-index-le4.false), omega arith, omega arith)

pub returns-then-index-le4-2 : goal.returns-then-index-le4-2
unfolding long34 short34 long67 short67 all_edges
returns-then-index-le4-2 c = (sym (bands-long34 _ _ c.if-short.false c.if-index-le4-2.true), omega arith, omega arith)

pub returns : goal.returns
unfolding long34 short34 long67 short67 all_edges
returns c = (sym (bands-long67 _ _ c.if-short.false c.if-index-le4-2.false), omega arith, omega arith)
