-- The two tests are the definition's one: all bits lie before the end.
use native.Mathlib.Omega.{arith}
use Rattle.bits.proofs.FieldLaws.{is_field, is-short}
use Rattle.bits.proofs.source.Bits.field.Goals as goal

pub returns-then-self-at : goal.returns-then-self-at
returns-then-self-at c = rw c.refused.ensures (is-short _ _ _ _ (omega arith))

pub returns-then-left-n : goal.returns-then-left-n
returns-then-left-n c = rw c.refused-then-left-n.ensures (is-short _ _ _ _ (omega arith))

pub returns : goal.returns
returns c = is_field _ _ _ _ (omega arith) c.bits_at.ensures
