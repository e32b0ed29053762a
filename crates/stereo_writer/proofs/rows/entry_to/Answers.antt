-- The difference of two indices, moved by the table's middle, is the entry; of phases modulo 8.
use mir.ValLaws.{to_z-of_z}
use mir.Syntax.{w8}
use mathlib.Core.Path.{sym, ◌∙◌}
use Rattle.stereo_writer.proofs.EntryLaws.{step_fits, step-thru}
use Rattle.stereo_writer.specs.Spelling.{entry_to}
use Rattle.stereo_writer.proofs.rows.entry_to.Goals as goal

pub returns-then-is_phase : goal.returns-then-is_phase
unfolding entry_to
returns-then-is_phase c =
    rw (
      ← c.is_phase.ensures,
      c.if-is_phase.true,
      c.magnitude.ensures.0,
      c.magnitude-then-is_phase.ensures.0,
      to_z-of_z w8 _ c.ranges.x,
      to_z-of_z w8 _ c.ranges.y,
    )

pub overflow_add-step : goal.overflow_add-step
overflow_add-step c = step_fits c.args.kind c.args.mode _ _ _ c.ranges.x c.ranges.y c.middle.ensures

pub returns : goal.returns
unfolding entry_to
returns c =
    let moved = step-thru c.args.kind c.args.mode _ _ _ c.ranges.x c.ranges.y c.middle.ensures in
    c.unsigned_abs.ensures.value ∙ rw (moved, sym c.is_phase.ensures ∙ c.if-is_phase.false)
