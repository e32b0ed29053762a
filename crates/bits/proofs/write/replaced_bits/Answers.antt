-- The bits above, the new ones and the bits below are digits of a byte, so that no sum or product of them leaves it.
use native.Mathlib.Omega.{arith}
use lib.Pow.{pow_pos}
use Rattle.bits.proofs.FourBytes.{one_shl}
use Rattle.bits.specs.InnerReplaced.{replaced_bits}
use Rattle.bits.proofs.PutParts.{upper_byte, replaced-bits-lt}
use Rattle.bits.proofs.write.replaced_bits.Goals as goal

pub overflow_mul-result : goal.overflow_mul-result
overflow_mul-result c =
    let a = c.args in
    rw (one_shl 32 a.m (omega arith)) (omega (arith, upper_byte a.x a.k a.m a.v (omega arith) (omega arith)))

pub nonzero_rem-result : goal.nonzero_rem-result
nonzero_rem-result c = rw (one_shl 32 c.args.m (omega arith)) (pow_pos c.args.m)

pub overflow_add-result-2 : goal.overflow_add-result-2
overflow_add-result-2 c =
    let a = c.args in
    rw (one_shl 32 a.m (omega arith)) (omega (arith, upper_byte a.x a.k a.m a.v (omega arith) (omega arith)))

pub overflow_mul-result-2 : goal.overflow_mul-result-2
unfolding replaced_bits
overflow_mul-result-2 c =
    let a = c.args in
    rw (one_shl 32 a.m (omega arith), one_shl 32 a.k (omega arith))
    (omega (arith, replaced-bits-lt a.x a.k a.m a.v (omega arith) (omega arith)))

pub nonzero_rem-result-2 : goal.nonzero_rem-result-2
nonzero_rem-result-2 c = rw (one_shl 32 c.args.k (omega arith)) (pow_pos c.args.k)

pub overflow_add-result-3 : goal.overflow_add-result-3
unfolding replaced_bits
overflow_add-result-3 c =
    let a = c.args in
    rw (one_shl 32 a.m (omega arith), one_shl 32 a.k (omega arith))
    (omega (arith, replaced-bits-lt a.x a.k a.m a.v (omega arith) (omega arith)))

pub overflow_cast-result-2 : goal.overflow_cast-result-2
unfolding replaced_bits
overflow_cast-result-2 c =
    let a = c.args in
    rw (one_shl 32 a.m (omega arith), one_shl 32 a.k (omega arith))
    (omega (arith, replaced-bits-lt a.x a.k a.m a.v (omega arith) (omega arith)))

pub returns : goal.returns
unfolding replaced_bits
returns c = rw (one_shl 32 c.args.m (omega arith), one_shl 32 c.args.k (omega arith))
