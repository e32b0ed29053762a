-- What is judged before any bit, then the slice of the range.
use mathlib.Core.Path.{◌≡◌, refl, sym, ◌∙◌}
use lib.ListN.{length}
use borrow.Author.Rules.{rules}
use Rattle.bits.specs.Calls.{first_number}
use Rattle.bits.specs.Payload.{in_buffer, range_in}
use Rattle.channel.specs.Promise.{outputs_fit, channel_tests}
use Rattle.channel.proofs.PromiseLaws.{judged-well, channel-not, channel-is}
use Rattle.channel.proofs.read_channel.Goals as goal

pub returns-then-number-ne0 : goal.returns-then-number-ne0
returns-then-number-ne0 c =
    let a = c.args in
    let e = rw c.outputs_fit-room.ensures at c.channel_refusal-number.ensures in
    rw (channel-not (range_in a.buf.now a.start a.end) a.index _ _ e c.if-number-ne0.true) (c.refused.ensures, refl)

pub slice_bounds-read_slice-count : goal.slice_bounds-read_slice-count
slice_bounds-read_slice-count c =
    let a = c.args in
    let w = judged-well (length a.buf.now) a.start a.end (length a.lines.now) (length a.factors.now) (length a.books.now) a.index
    c.outputs_fit-room.ensures c.channel_refusal-number.ensures c.if-number-ne0.false in
    w.0

pub slice_bounds-read_slice-start : goal.slice_bounds-read_slice-start
slice_bounds-read_slice-start c =
    let a = c.args in
    let w = judged-well (length a.buf.now) a.start a.end (length a.lines.now) (length a.factors.now) (length a.books.now) a.index
    c.outputs_fit-room.ensures c.channel_refusal-number.ensures c.if-number-ne0.false in
    search rules

pub slice_bounds-read_slice-end : goal.slice_bounds-read_slice-end
slice_bounds-read_slice-end c =
    let a = c.args in
    let w = judged-well (length a.buf.now) a.start a.end (length a.lines.now) (length a.factors.now) (length a.books.now) a.index
    c.outputs_fit-room.ensures c.channel_refusal-number.ensures c.if-number-ne0.false in
    search rules

pub read_slice-requires : goal.read_slice-requires
read_slice-requires c =
    let a = c.args in
    let w = judged-well (length a.buf.now) a.start a.end (length a.lines.now) (length a.factors.now) (length a.books.now) a.index
    c.outputs_fit-room.ensures c.channel_refusal-number.ensures c.if-number-ne0.false in
    (w.2, w.3, w.4)

pub returns : goal.returns
returns c =
    let a = c.args in
    let judged : first_number (channel_tests (in_buffer a.start a.end (length a.buf.now))
    (outputs_fit (length a.lines.now) (length a.factors.now) (length a.books.now)) a.index) ≡ 0 =
    rw c.outputs_fit-room.ensures at (sym c.channel_refusal-number.ensures ∙ c.if-number-ne0.false) in
    let e = c.read_slice.ensures in
    rw (channel-is (range_in a.buf.now a.start a.end) a.index _ judged)
    (e.value, λ j. record { lines = e.lines_after j; factors = e.factors_after j; books = e.books_after j })
