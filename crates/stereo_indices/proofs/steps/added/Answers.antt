-- No sum passes 218, so 16 bits hold it and the code adds what the definition adds.
use mathlib.Core.Path.{◌∙◌, sym}
use native.Mathlib.Omega.{arith}
use mir.Syntax.{w16}
use Rattle.stereo_indices.specs.Difference.{added}
use Rattle.stereo_indices.proofs.KindLaws.{code_sum, sum_abs, through}
use Rattle.stereo_indices.proofs.steps.added.Goals as goal

pub returns : goal.returns
unfolding added
returns c =
    let a = c in
    through w16 218 (code_sum _ _ _ _ _ a.requires a.ranges.x c.middle.ensures) (sum_abs _ _ _ _ a.requires a.ranges.x) (omega arith)
    ∙ rw (sym c.is_phase.ensures ∙ c.if-is_phase.false)
