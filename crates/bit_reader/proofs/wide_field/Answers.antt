-- The halves have at most 12 and 20 bits, and put together they are the field.
use native.Mathlib.Omega.{arith}
use Rattle.bits.proofs.FieldLaws.{is_field, is-short}
use Rattle.bit_reader.proofs.Halves.{halves-below, both}
use Rattle.bit_reader.proofs.wide_field.Goals as goal

pub returns-then-saturating_sub-n : goal.returns-then-saturating_sub-n
returns-then-saturating_sub-n c = rw c.refused.ensures (is-short _ _ _ _ (omega arith))

pub overflow_mul-result : goal.overflow_mul-result
overflow_mul-result c =
    let below = halves-below _ _ _ c.requires.0 c.bits_at-high.ensures c.bits_at-low.ensures c.requires.1 in
    omega (arith, below)

pub overflow_add-result : goal.overflow_add-result
overflow_add-result c =
    let below = halves-below _ _ _ c.requires.0 c.bits_at-high.ensures c.bits_at-low.ensures c.requires.1 in
    omega (arith, below)

pub returns : goal.returns
returns c = is_field _ _ _ _ (omega arith) (both _ _ _ c.requires.0 c.bits_at-high.ensures c.bits_at-low.ensures)
