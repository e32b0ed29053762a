-- What is judged before the stream is asked for, then the wrapping's answer, told in bytes; the stream is asked for with an index that was
-- narrowed, which changes nothing.
-- Assumes nothing.
use mathlib.Core.Path.{◌≡◌, sym, ◌∙◌}
use lib.ListN.{length}
use Rattle.bits.proofs.CallLaws.{call-room}
use Rattle.c_adts.specs.WrapStream.{Call}
use Rattle.c_adts.proofs.WrapLaws.{before, wrap-refused, wrap-short, wrap-told}
use Rattle.c_adts.proofs.oarcradler_wrap_stream.Goals as goal

pub returns-then-number-ne0 : goal.returns-then-number-ne0
returns-then-number-ne0 c =
    let a = c.args in
    let given : Call = record {
      payload = record { bytes = a.buf.now; start = a.start; end = a.end };
      index = a.index;
      out = a.out.now;
      answer = a.answer.now;
    } in
    wrap-refused given c.call_refusal-number.result c.call_refusal-number.ensures c.if-number-ne0.true

-- past the first test the call is not refused
pub told_wrapping-requires : goal.told_wrapping-requires
told_wrapping-requires c =
    let a = c.args in
    let given : Call = record {
      payload = record { bytes = a.buf.now; start = a.start; end = a.end };
      index = a.index;
      out = a.out.now;
      answer = a.answer.now;
    } in
    let called : before given ≡ 0 = sym c.call_refusal-number.ensures ∙ c.if-number-ne0.false in (
      call-room (length a.buf.now) a.start a.end 4 _ called,
      wrap-short given _ c.narrow.ensures _ _ c.wrap-r.ensures,
    )

pub returns : goal.returns
returns c =
    let a = c.args in
    let given : Call = record {
      payload = record { bytes = a.buf.now; start = a.start; end = a.end };
      index = a.index;
      out = a.out.now;
      answer = a.answer.now;
    } in
    let called : before given ≡ 0 = sym c.call_refusal-number.ensures ∙ c.if-number-ne0.false in
    let e = c.told_wrapping.ensures in
    wrap-told given _ c.narrow.ensures _ _ c.wrap-r.ensures called _ e.0 _ e.1
