-- The bits that the link asks for are cut out of the window by a shift and a remainder; past the window and past the lookup it is 0.
use Prim.Native.Nat.{◌+◌, ◌*◌, ◌-◌, ◌/◌, ◌%◌, ◌^◌, ◌≤◌}
use mathlib.Core.Path.{◌≡◌, sym}
use native.Mathlib.Omega.{arith}
use native.Mathlib.Nat.{mod-lt}
use lib.ListN.{length, get_or, get_or-eq_default}
use lib.Pow.{pow_pos}
use Rattle.bits.proofs.FourBytes.{one_shl}
use Rattle.words.proofs.LookupSteps.{next-over, next-at}
use Rattle.words.proofs.lookup.next_element.Goals as goal

pub returns-then-d-further-gt24 : goal.returns-then-d-further-gt24
returns-then-d-further-gt24 c = (next-over _ _ _ _ (omega arith), omega arith)

pub nonzero_rem-i-2 : goal.nonzero_rem-i-2
nonzero_rem-i-2 c =
    let x = c.args in
    let b = x.link / 2048 - 8 in
    let o = one_shl 32 b (omega arith) in
    let z = pow_pos b in
    omega arith

pub overflow_cast-i-3 : goal.overflow_cast-i-3
overflow_cast-i-3 c =
    let x = c.args in
    let b = x.link / 2048 - 8 in
    let o = one_shl 32 b (omega arith) in
    let z = pow_pos b in
    omega (arith, mod-lt (x.w / 2 ^ (24 - (x.d + b))) {m = 1 * 2 ^ b % 4294967296} (omega arith))

pub overflow_add-i-2 : goal.overflow_add-i-2
overflow_add-i-2 c =
    let x = c.args in
    let b = x.link / 2048 - 8 in
    let o = one_shl 32 b (omega arith) in
    let z = pow_pos b in
    omega (arith, mod-lt (x.w / 2 ^ (24 - (x.d + b))) {m = 1 * 2 ^ b % 4294967296} (omega arith))

pub returns-then-i-look : goal.returns-then-i-look
returns-then-i-look c =
    let x = c.args in
    let b = x.link / 2048 - 8 in
    let o = one_shl 32 b (omega arith) in
    let q : c.element.result ≡ get_or x.look.now (x.link % 2048 + x.w / 2 ^ (24 - (x.d + b)) % 2 ^ b) 0 =
    rw (← o) c.element.ensures.0 in
    (next-at x.look.now x.w x.d x.link (omega arith) q, c.element.ensures.1)

pub returns : goal.returns
returns c =
    let x = c.args in
    let b = x.link / 2048 - 8 in
    let o = one_shl 32 b (omega arith) in
    let l : length x.look.now ≤ x.link % 2048 + x.w / 2 ^ (24 - (x.d + b)) % 2 ^ b = rw (← o) c.if-i-look.false in (
      next-at x.look.now x.w x.d x.link (omega arith) (sym (get_or-eq_default x.look.now 0 l)),
      omega arith,
    )
