-- What is put at the front stands before what is left of the old.
use mathlib.Core.Path.{◌≡◌, ◌∙◌}
use lib.ListN.{length}
use borrow.Author.Rules.{rules}
use Rattle.bits.proofs.OverLaws.{over-front}
use Rattle.channel.proofs.put_front.Goals as goal

pub returns : goal.returns
returns g c =
    let long : length c.args.values.now ≡ g.row.N = search rules in
    c.put.ensures ∙ over-front _ _ _ long
