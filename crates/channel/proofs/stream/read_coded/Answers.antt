-- The part of the edges is the bands of the index and the windows.
use mathlib.Core.Path.{◌≡◌, ◌∙◌, ap}
use lib.ListN.{length}
use borrow.Author.Rules.{rules}
use Rattle.channel.proofs.StreamLaws.{edges-count}
use Rattle.channel.proofs.stream.read_coded.Goals as goal

pub slice_bounds-own_edges-end : goal.slice_bounds-own_edges-end
slice_bounds-own_edges-end c =
    let long : length c.args.edges.now ≡ 129 = ap length c.requires.0 ∙ edges-count in
    search rules
