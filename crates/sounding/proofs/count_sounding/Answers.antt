-- The lines that are kept are those that the definition counts.
-- Assumes nothing.
use mathlib.Core.Path.{◌≡◌, ◌∙◌}
use borrow.Author.Rules.{rules}
use Rattle.std.specs.List.{count_by}
use Rattle.sounding.proofs.SoundingLaws.{sounds, counted}
use Rattle.sounding.proofs.count_sounding.Goals as goal

pub returns : goal.returns
returns c =
    let kept : c.count.result ≡ count_by sounds c.args.lines.now = search rules in
    kept ∙ counted c.args.lines.now
