-- The numbers are the four lists, one after another.
use mathlib.Core.Path.{refl}
use Rattle.channel_bands.specs.Bands.{long34, short34, long67, short67}
use Rattle.channel_bands.specs.InnerBands.{all_edges}
use Rattle.channel_bands.proofs.bands.edges.Goals as goal

pub returns : goal.returns
unfolding long34 short34 long67 short67 all_edges
returns c = refl
