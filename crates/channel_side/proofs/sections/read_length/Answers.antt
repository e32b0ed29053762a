-- What is left of the length is read from the bands that are there; an increment of all ones adds one at least, so that the room is passed
-- in the end.
use Prim.Native.Nat.{◌+◌, ◌^◌}
use mathlib.Core.Path.{◌≡◌, sym, ◌∙◌}
use native.Mathlib.Omega.{arith}
use lib.Pow.{pow_mono}
use Rattle.bits.proofs.Taken.{field_below}
use Rattle.channel_side.proofs.SectionLaws.{shifted}
use Rattle.channel_side.proofs.sections.read_length.Goals as goal

pub overflow_add-bands : goal.overflow_add-bands
overflow_add-bands c =
    let width = c.args.width in
    omega (arith, field_below width _ _ _ _ _ (sym c.in_ok-more.ensures), pow_mono {i = width} {j = 5} (omega arith))

pub loop-more-smaller : goal.loop-more-smaller
loop-more-smaller c =
    let width = c.args.width in
    let all_ones : c.in_ok-more.more + 1 ≡ 2 ^ width = c.if-more-width.false ∙ shifted width (omega arith) in
    omega (arith, all_ones, pow_mono {i = 1} {j = width} (omega arith))
