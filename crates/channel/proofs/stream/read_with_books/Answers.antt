-- Scale factors, then the lines: the first refusal stands.
use mathlib.Core.Path.{sym}
use Rattle.channel.proofs.StreamLaws.{lines_on}
use Rattle.channel.proofs.stream.read_with_books.Goals as goal

pub returns : goal.returns
returns c =
    let x = c.args in
    lines_on x.index x.head _ _ _ _ (sym c.in_ok-after_factors.ensures) c.read_coded.result _ c.read_coded.ensures
