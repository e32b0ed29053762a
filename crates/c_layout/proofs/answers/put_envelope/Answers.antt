-- Four runs of 35 bytes are put one after another, so they make one run of 140.
-- Assumes nothing.
use native.Mathlib.Omega.{arith}
use Rattle.c_layout.specs.ContentsBytes.{row_bytes, envelope_bytes}
use Rattle.bits.proofs.OverLaws.{put_next}
use Rattle.c_layout.proofs.answers.put_envelope.Goals as goal

pub returns : goal.returns
unfolding envelope_bytes row_bytes
returns c =
    let opd = c in
    let ipd = opd in
    let icc = ipd in
    let iid = icc in
    let a = iid.args in
    let s = a.out.now in
    let at = a.at in
    let at-70 = put_next s at _ 35 _ 35 iid.put_numbered.ensures icc.put_numbered-2.ensures (omega arith) in
    let at-105 = put_next s at _ 70 _ 35 at-70 ipd.put_numbered-3.ensures (omega arith) in
    put_next s at _ 105 _ 35 at-105 opd.put_numbered-4.ensures (omega arith)
