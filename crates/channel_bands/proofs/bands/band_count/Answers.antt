-- Each list of bands has one edge more than bands.
use Rattle.channel_bands.specs.Bands.{long34, short34, long67, short67, band_count}
use Rattle.channel_bands.proofs.BandLaws.{bands-short34, bands-short67, bands-long34, bands-long67}
use Rattle.channel_bands.proofs.bands.band_count.Goals as goal

pub returns-then-index-le4 : goal.returns-then-index-le4
unfolding short34 band_count
returns-then-index-le4 c = rw (bands-short34 _ _ c.if-short.true c.if-index-le4.true)

pub returns-then-short : goal.returns-then-short
unfolding short67 band_count
returns-then-short c = rw (bands-short67 _ _ c.if-short.true c.if-index-le4.false)

pub returns-then-index-le4-2 : goal.returns-then-index-le4-2
unfolding long34 band_count
returns-then-index-le4-2 c = rw (bands-long34 _ _ c.if-short.false c.if-index-le4-2.true)

pub returns : goal.returns
unfolding long67 band_count
returns c = rw (bands-long67 _ _ c.if-short.false c.if-index-le4-2.false)
