-- After each turn the runs of so many envelopes make one run.
-- Assumes nothing.
use Prim.Native.Nat.{◌*◌}
use mathlib.Core.Path.{◌≡◌}
use native.Mathlib.Omega.{arith}
use borrow.Author.Rules.{rules}
use lib.ListN.{length}
use Rattle.c_layout.specs.ContentsBytes.{envelopes_bytes}
use Rattle.bits.proofs.OverLaws.{put-none, put_next, put_as}
use Rattle.c_layout.proofs.EnvelopeLaws.{envelopes-more}
use Rattle.c_layout.proofs.answers.put_envelopes.Goals as goal

pub loop-e-init : goal.loop-e-init
unfolding envelopes_bytes
loop-e-init c = put-none c.args.out.now 22

pub loop-e-preserved : goal.loop-e-preserved
loop-e-preserved c =
    let a = c.args in
    let e = c.loop-e.e in
    let iid : length a.iid.now ≡ 4 = search rules in
    let icc : length a.icc.now ≡ 4 = search rules in
    let phases : length a.phases.now ≡ 4 = search rules in
    let next = put_next a.out.now 22 _ (140 * e) _ 140 c.loop-e.invariant c.put_envelope.ensures (omega arith) in
    let more = envelopes-more a.iid.now a.icc.now a.phases.now e _ _ _ (omega arith) (omega arith) (omega arith) in
    put_as a.out.now 22 _ _ _ _ next more (omega arith)

pub returns : goal.returns
returns c =
    let e : c.loop-e.e ≡ 4 = omega arith in
    rw e at c.loop-e.invariant
