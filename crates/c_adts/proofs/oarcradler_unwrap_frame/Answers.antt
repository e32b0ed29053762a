-- What is judged before the frame is asked for, then the unwrapping's answer, told in bytes.
-- Assumes nothing.
use mathlib.Core.Path.{◌≡◌, sym, ◌∙◌}
use lib.ListN.{length}
use Rattle.bits.proofs.CallLaws.{call-room}
use Rattle.c_adts.specs.UnwrapFrame.{Call}
use Rattle.c_adts.proofs.FrameLaws.{judged, unwrap-refused, unwrap-short, unwrap-told}
use Rattle.c_adts.proofs.oarcradler_unwrap_frame.Goals as goal

pub returns-then-number-ne0 : goal.returns-then-number-ne0
returns-then-number-ne0 c =
    let a = c.args in
    let given : Call = record { file = a.file.now; start = a.start; out = a.out.now; answer = a.answer.now } in
    unwrap-refused given c.call_refusal-number.result c.call_refusal-number.ensures c.if-number-ne0.true

-- past the first test the call is not refused
pub told_frame-requires : goal.told_frame-requires
told_frame-requires c =
    let a = c.args in
    let given : Call = record { file = a.file.now; start = a.start; out = a.out.now; answer = a.answer.now } in
    let called : judged a.file.now a.start a.answer.now ≡ 0 = sym c.call_refusal-number.ensures ∙ c.if-number-ne0.false in (
      call-room (length a.file.now) a.start (length a.file.now) 22 _ called,
      unwrap-short given _ _ c.unwrap-r.ensures,
    )

pub returns : goal.returns
returns c =
    let a = c.args in
    let given : Call = record { file = a.file.now; start = a.start; out = a.out.now; answer = a.answer.now } in
    let called : judged a.file.now a.start a.answer.now ≡ 0 = sym c.call_refusal-number.ensures ∙ c.if-number-ne0.false in
    let e = c.told_frame.ensures in
    unwrap-told given _ _ c.unwrap-r.ensures called _ e.0 _ e.1
