-- The derived `==` compares the fields that the definition compares.
use mathlib.Core.Path.{◌∙◌}
use Rattle.stereo_writer.proofs.EqualLaws.{contents_equal}
use Rattle.stereo_writer.proofs.same.same_contents.Goals as goal

pub returns : goal.returns
returns c = c.eq.ensures ∙ contents_equal c.args.a c.args.b
