-- A line and an amplitude in 32 bits: nothing is lost.
use native.Mathlib.Omega.{arith}
use mir.Syntax.{w16}
use mir.ValLaws.{to_z-of_z}
use Rattle.channel_side.specs.Pulses.{pulsed}
use Rattle.channel_side.proofs.LineLaws.{wide_fits, sum-wide, sum-wide-is, diff-wide, diff-wide-is}
use Rattle.channel_side.proofs.pulses.pulsed_line.Goals as goal

pub overflow_cast-result : goal.overflow_cast-result
overflow_cast-result c = wide_fits _ c.ranges.line

pub overflow_add-result : goal.overflow_add-result
overflow_add-result c = sum-wide c.args.line c.args.amplitude c.ranges.line (omega arith)

pub returns-then-line-gt0 : goal.returns-then-line-gt0
unfolding pulsed
returns-then-line-gt0 c =
    let s = c in
    rw (sum-wide-is s.args.line s.args.amplitude s.ranges.line (omega arith))
    (simp (rw (to_z-of_z w16 _ s.ranges.line) at c.if-line-gt0.true))

pub overflow_cast-result-2 : goal.overflow_cast-result-2
overflow_cast-result-2 c = wide_fits _ c.ranges.line

pub overflow_sub-result : goal.overflow_sub-result
overflow_sub-result c = diff-wide c.args.line c.args.amplitude c.ranges.line (omega arith)

pub returns : goal.returns
unfolding pulsed
returns c =
    let s = c in
    rw (diff-wide-is s.args.line s.args.amplitude s.ranges.line (omega arith))
    (simp (rw (to_z-of_z w16 _ s.ranges.line) at c.if-line-gt0.false))
