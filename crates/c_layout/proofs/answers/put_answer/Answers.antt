-- The head and the envelopes are put one after the other, so they make one run of 582.
-- Assumes nothing.
use native.Mathlib.Omega.{arith}
use Rattle.c_layout.specs.ContentsBytes.{answer_bytes}
use Rattle.bits.proofs.OverLaws.{put_next}
use Rattle.c_layout.proofs.answers.put_answer.Goals as goal

pub returns : goal.returns
unfolding answer_bytes
returns c =
    let rest = c in
    let head = rest in
    let s = head.args.out.now in
    (put_next s 0 _ 22 _ 560 head.put_head.ensures rest.put_envelopes.ensures (omega arith)).0
