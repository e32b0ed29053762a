-- No stream goes further than 4,750 bytes, so looking at one more answers what looking at all of them would; more than 7 bits after it are
-- refused.
use Prim.Native.Nat.{min}
use mathlib.Core.Path.{◌≡◌}
use native.Mathlib.Omega.{arith}
use lib.ListN.{length}
use borrow.Author.Rules.{rules}
use Rattle.bits.specs.Payload.{whole}
use Rattle.bits.specs.Reader.{refused}
use Rattle.bits.proofs.NearLaws.{near-got, near-left, near-refused}
use Rattle.channel.specs.Stream.{stream}
use Rattle.channel.proofs.StreamLawful.{stream-lawful}
use Rattle.channel.proofs.StreamNear.{stream-near}
use Rattle.channel.proofs.stream.read_payload.Goals as goal

pub returns-in_err-head : goal.returns-in_err-head
returns-in_err-head c =
    let x = c.args in
    let r = c.in_err-head.field-0.0 in
    let m : c.min-end.result ≡ min (length x.s.now) 4751 = search rules in
    let e : whole (stream x.index) x.s.now ≡ refused r.number r.place =
    near-refused 4750 _ (stream-near _) _ (rw m at c.in_err-head.ensures) in
    search rules

pub overflow_sub-end : goal.overflow_sub-end
overflow_sub-end c =
    let x = c.args in
    ((stream-lawful x.index).accepts.within x.s.now 0 _ _ _ (omega arith) c.in_ok-head.ensures.2).1

pub returns-then-end-next-gt7 : goal.returns-then-end-next-gt7
returns-then-end-next-gt7 c =
    let x = c.args in
    let m : c.min-end.result ≡ min (length x.s.now) 4751 = search rules in
    rw c.refused.ensures
    (near-left 4750 _ (stream-near _) _ (rw m at c.in_ok-head.ensures.2) (rw m at c.if-end-next-gt7.true))

pub returns : goal.returns
returns c =
    let x = c.args in
    let m : c.min-end.result ≡ min (length x.s.now) 4751 = search rules in
    let e = c.in_ok-head.ensures in
    (e.0, e.1, near-got 4750 _ (stream-near _) _ (rw m at e.2) (rw m at c.if-end-next-gt7.false))
