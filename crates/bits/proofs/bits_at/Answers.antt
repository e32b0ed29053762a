-- Twenty-four bits from any place lie in four bytes; a shift and a remainder cut them out.
use native.Mathlib.Omega.{arith}
use lib.Pow.{pow_pos}
use Rattle.bits.proofs.BitLaws.{bits_from-below}
use Rattle.bits.proofs.FourBytes.{word-run, one_shl}
use Rattle.bits.proofs.bits_at.Goals as goal

pub nonzero_rem-result : goal.nonzero_rem-result
nonzero_rem-result c =
    let a = c in
    rw (one_shl 64 a.args.n (omega arith)) (pow_pos a.args.n)

pub overflow_cast-result : goal.overflow_cast-result
overflow_cast-result c =
    let a = c in
    let x = a.args in
    let e = word-run x.s.now x.at x.n a.requires c.byte.ensures c.byte-2.ensures
    c.byte-3.ensures c.byte-4.ensures in
    omega (arith, bits_from-below x.s.now x.at x.n 24 a.requires)

pub returns : goal.returns
returns c =
    let a = c in
    let x = a.args in
    let e = word-run x.s.now x.at x.n a.requires c.byte.ensures c.byte-2.ensures
    c.byte-3.ensures c.byte-4.ensures in
    e
