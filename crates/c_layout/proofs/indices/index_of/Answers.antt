-- A byte below 128 is its index as it stands; any other is lowered by 256 by way of 16 bits.
-- Assumes nothing.
use mathlib.Core.Path.{◌≡◌, ◌∙◌}
use lib.IntN.{pos, ◌-ℤ◌}
use mir.Syntax.{w8, w16}
use mir.Val.{to_z}
use mir.Facts.{sfits_widen}
use mir.ValLaws.{to_z-of_z, to_z-Fits}
use Rattle.c_layout.proofs.Turn.{lowered}
use Rattle.c_layout.proofs.indices.index_of.Goals as goal

pub overflow_sub-result : goal.overflow_sub-result
overflow_sub-result c =
    -- a byte that is not below 128, less 256, is its index
    let less : to_z w16 c.args.b -ℤ pos 256 ≡ to_z w8 c.args.b = lowered c.args.b c.if-b-lt128.false c.ranges.b.fits in
    rw less (sfits_widen tt (to_z-Fits w8 _ c.ranges.b))

pub overflow_cast-result-else-b-lt128-2 : goal.overflow_cast-result-else-b-lt128-2
overflow_cast-result-else-b-lt128-2 c =
    -- a byte that is not below 128, less 256, is its index
    let less : to_z w16 c.args.b -ℤ pos 256 ≡ to_z w8 c.args.b = lowered c.args.b c.if-b-lt128.false c.ranges.b.fits in
    rw (to_z-of_z w16 _ (overflow_sub-result c), less) (to_z-Fits w8 _ c.ranges.b)

pub returns-else-b-lt128 : goal.returns-else-b-lt128
returns-else-b-lt128 c =
    -- a byte that is not below 128, less 256, is its index
    let less : to_z w16 c.args.b -ℤ pos 256 ≡ to_z w8 c.args.b = lowered c.args.b c.if-b-lt128.false c.ranges.b.fits in
    to_z-of_z w8 _ (overflow_cast-result-else-b-lt128-2 c) ∙ to_z-of_z w16 _ (overflow_sub-result c) ∙ less
