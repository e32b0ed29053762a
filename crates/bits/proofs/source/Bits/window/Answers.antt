-- Twenty-four bits from any place lie in four bytes, which are there where 32 bits are left; else the last bits are taken.
use Rattle.bits.proofs.WindowLaws.{window-run}
use Prim.Native.Nat.{◌-◌}
use native.Mathlib.Omega.{arith}
use Rattle.bits.proofs.source.Bits.window.Goals as goal

pub returns : goal.returns
returns c =
    let x = c.args in
    window-run x.self.now.bytes.now x.at (x.self.now.end - x.at) (omega arith)
    c.byte_at.ensures c.byte_at-2.ensures c.byte_at-3.ensures c.byte_at-4.ensures
