-- The head and the four records are put one after another, so they make one run of 146.
-- Assumes nothing.
use Prim.Native.Nat.{◌≤◌}
use mathlib.Core.Path.{refl, ◌∙◌}
use native.Mathlib.Omega.{arith}
use lib.ListN.{length}
use Rattle.c_layout.specs.StateBytes.{state_head, record_bytes, state_bytes}
use Rattle.bits.proofs.OverLaws.{Put, put_next}
use Rattle.c_layout.proofs.states.put_state.Goals as goal

pub returns : goal.returns
unfolding state_bytes state_head record_bytes
returns c =
    let opd = c in
    let ipd = opd in
    let icc = ipd in
    let iid = icc in
    let head = iid in
    let entry = head in
    let s = entry.args.out.now in
    let st = entry.args.state in
    let long : 146 ≤ length s = entry.requires in
    let at-6 : Put s 0 (state_head st) 6 head.put.new.out =
    (head.put.ensures ∙ rw head.head_of-head.ensures, refl) in
    let at-41 = put_next s 0 _ 6 _ 35 at-6 iid.put_numbered.ensures (omega arith) in
    let at-76 = put_next s 0 _ 41 _ 35 at-41 icc.put_numbered-2.ensures (omega arith) in
    let at-111 = put_next s 0 _ 76 _ 35 at-76 ipd.put_numbered-3.ensures (omega arith) in
    (put_next s 0 _ 111 _ 35 at-111 opd.put_numbered-4.ensures (omega arith)).0
