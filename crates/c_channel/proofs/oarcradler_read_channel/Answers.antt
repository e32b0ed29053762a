-- What is judged before any bit, then the reader's answer, told in bytes; the reader is asked with an index that was narrowed, which
-- changes nothing.
-- Assumes nothing.
use mathlib.Core.Path.{◌≡◌, sym, ◌∙◌}
use lib.ListN.{length}
use Rattle.bits.specs.Payload.{in_buffer}
use Rattle.bits.specs.Calls.{first_number, call_tests}
use Rattle.bits.proofs.CallLaws.{call-room}
use Rattle.c_channel.specs.ReadChannel.{Call}
use Rattle.c_channel.proofs.ChannelLaws.{call-refused, place_short, read_told}
use Rattle.c_channel.proofs.oarcradler_read_channel.Goals as goal

pub returns-then-number-ne0 : goal.returns-then-number-ne0
returns-then-number-ne0 c =
    let a = c.args in
    let given : Call = record {
      payload = record { bytes = a.buf.now; start = a.start; end = a.end };
      index = a.index;
      outputs = record { lines = a.lines.now; factors = a.factors.now; books = a.books.now };
      answer = a.answer.now;
    } in
    call-refused given c.call_refusal-number.result c.call_refusal-number.ensures c.if-number-ne0.true

-- past the first test the call is not refused
pub told-requires : goal.told-requires
told-requires c =
    let a = c.args in
    let given : Call = record {
      payload = record { bytes = a.buf.now; start = a.start; end = a.end };
      index = a.index;
      outputs = record { lines = a.lines.now; factors = a.factors.now; books = a.books.now };
      answer = a.answer.now;
    } in
    let tests = call_tests (in_buffer a.start a.end (length a.buf.now)) 17 (length a.answer.now) in
    let called : first_number tests ≡ 0 = sym c.call_refusal-number.ensures ∙ c.if-number-ne0.false in (
      call-room (length a.buf.now) a.start a.end 17 _ called,
      place_short given called _ c.narrow.ensures _ c.read_channel-r.ensures.0,
    )

pub returns : goal.returns
returns c =
    let a = c.args in
    let given : Call = record {
      payload = record { bytes = a.buf.now; start = a.start; end = a.end };
      index = a.index;
      outputs = record { lines = a.lines.now; factors = a.factors.now; books = a.books.now };
      answer = a.answer.now;
    } in
    let tests = call_tests (in_buffer a.start a.end (length a.buf.now)) 17 (length a.answer.now) in
    let called : first_number tests ≡ 0 = sym c.call_refusal-number.ensures ∙ c.if-number-ne0.false in
    let x = c.read_channel-r.ensures in
    read_told given called _ c.narrow.ensures _ _ x.0 x.1 _ c.told.ensures.0 _ c.told.ensures.1
