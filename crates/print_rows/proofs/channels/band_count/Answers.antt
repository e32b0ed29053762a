-- Two bytes have a product below 2^16.
-- Assumes nothing.
use Prim.Native.Nat.{◌*◌, ◌≤◌}
use native.Mathlib.Omega.{arith}
use native.Mathlib.Nat.{mul-le-mul, lt_of_le_of_lt}
use borrow.Author.Rules.{rules}
use Rattle.print_rows.proofs.channels.band_count.Goals as goal

pub overflow_mul-result : goal.overflow_mul-result
overflow_mul-result c =
    let r = c.args.r in
    let groups : r.group_count ≤ 255 = search rules in
    let bands : r.max_sfb ≤ 255 = search rules in
    let product : r.group_count * r.max_sfb ≤ 255 * 255 = mul-le-mul groups bands in
    record { fits = lt_of_le_of_lt product (omega arith) }
