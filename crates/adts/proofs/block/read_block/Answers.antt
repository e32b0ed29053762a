-- The element, then the end element and what is left: the first refusal stands; the stream used the bits from bit 63 on.
use Prim.Native.Nat.{◌-◌}
use mathlib.Core.Path.{◌≡◌, sym, ◌∙◌, ap}
use borrow.Author.Rules.{rules}
use Rattle.bits.specs.InnerAnswers.{reads}
use Rattle.bits.specs.Reader.{refused}
use Rattle.adts.specs.Block.{raw_block}
use Rattle.adts.specs.Frame.{stream_in}
use Rattle.adts.proofs.BlockLaws.{with-element}
use Rattle.adts.proofs.block.read_block.Goals as goal

pub returns-in_err-read_end : goal.returns-in_err-read_end
returns-in_err-read_end c =
    let x = c.args in
    let r = c.in_err-read_end.field-0.0 in
    let block = with-element x.index x.s.now.bytes.now x.s.now.end c.in_ok-head.ensures.2 in
    let e : stream_in (reads (raw_block x.index) x.s.now 56) ≡ refused r.number r.place =
    ap stream_in (block ∙ sym (c.in_err-read_end.ensures _)) in
    search rules

pub returns : goal.returns
returns c =
    let x = c.args in
    let h = c.in_ok-head in
    let block = with-element x.index x.s.now.bytes.now x.s.now.end h.ensures.2 in
    let used : c.saturating_sub.result ≡ h.last - 63 = search rules in
    (h.ensures.0, h.ensures.1, ap stream_in (block ∙ sym (c.in_ok-read_end.ensures _)) ∙ rw used)
