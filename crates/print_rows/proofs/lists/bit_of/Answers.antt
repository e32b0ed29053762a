-- A bit is below ten, so its digit is so much more than `0`.
-- Assumes nothing.
use Prim.Native.Nat.{◌/◌, ◌%◌, ◌^◌}
use borrow.Author.Tests.{lt-ltb}
use native.Mathlib.Omega.{arith}
use Rattle.print_rows.proofs.lists.bit_of.Goals as goal

pub returns : goal.returns
returns c = rw (lt-ltb (c.args.value / 2 ^ c.args.k % 2) 10 (omega arith))
