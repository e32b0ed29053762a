-- A negative index is raised by 256 by way of 16 bits; any other is its byte as it stands.
-- Assumes nothing.
use mathlib.Core.Path.{◌≡◌, ap}
use lib.IntN.{pos, ◌+ℤ◌, nat_abs}
use mir.Syntax.{w8, w16}
use mir.Val.{to_z, of_z}
use mir.Facts.{sfits_widen}
use mir.ValLaws.{to_z-of_z, of_z_fits}
use Rattle.c_layout.proofs.Turn.{raised-fits, raised, plain}
use Rattle.c_layout.proofs.indices.index_byte.Goals as goal

pub overflow_cast-result : goal.overflow_cast-result
overflow_cast-result c =
    -- the test and the cast read the index as it is
    let whole : to_z w8 (of_z w8 c.args.x) ≡ c.args.x = to_z-of_z w8 _ c.ranges.x in
    rw whole (sfits_widen tt c.ranges.x)

pub overflow_add-result : goal.overflow_add-result
overflow_add-result c = raised-fits _ c.ranges.x

pub overflow_cast-result-then-x-lt0 : goal.overflow_cast-result-then-x-lt0
overflow_cast-result-then-x-lt0 c =
    -- the test and the cast read the index as it is
    let whole : to_z w8 (of_z w8 c.args.x) ≡ c.args.x = to_z-of_z w8 _ c.ranges.x in
    -- the byte of one below 0, and of any other
    let below : let x = c.args.x in to_z w16 (of_z w16 (to_z w16 (of_z w16 (to_z w8 (of_z w8 x))) +ℤ pos 256)) ≡ pos (of_z w8 x) =
    raised _ c.ranges.x (rw whole at c.if-x-lt0.true) in
    rw below (tt, of_z_fits w8 c.args.x c.ranges.x)

pub overflow_cast-result-else-x-lt0 : goal.overflow_cast-result-else-x-lt0
overflow_cast-result-else-x-lt0 c =
    -- the test and the cast read the index as it is
    let whole : to_z w8 (of_z w8 c.args.x) ≡ c.args.x = to_z-of_z w8 _ c.ranges.x in
    let other : c.args.x ≡ pos (of_z w8 c.args.x) = plain c.args.x (rw whole at c.if-x-lt0.false) in
    rw (whole, other) (tt, of_z_fits w8 c.args.x c.ranges.x)

pub returns-then-x-lt0 : goal.returns-then-x-lt0
returns-then-x-lt0 c =
    -- the test and the cast read the index as it is
    let whole : to_z w8 (of_z w8 c.args.x) ≡ c.args.x = to_z-of_z w8 _ c.ranges.x in
    -- the byte of one below 0, and of any other
    let below : let x = c.args.x in to_z w16 (of_z w16 (to_z w16 (of_z w16 (to_z w8 (of_z w8 x))) +ℤ pos 256)) ≡ pos (of_z w8 x) =
    raised _ c.ranges.x (rw whole at c.if-x-lt0.true) in
    rw below

pub returns-else-x-lt0 : goal.returns-else-x-lt0
returns-else-x-lt0 c =
    -- the test and the cast read the index as it is
    let whole : to_z w8 (of_z w8 c.args.x) ≡ c.args.x = to_z-of_z w8 _ c.ranges.x in
    let other : c.args.x ≡ pos (of_z w8 c.args.x) = plain c.args.x (rw whole at c.if-x-lt0.false) in
    rw whole (ap nat_abs other)
