-- Each turn puts the next of the words' bytes: what is put so far and what is left of the words make all of them.
-- Assumes nothing.
use Prim.Native.Nat.{◌+◌}
use mathlib.Core.Path.{refl, sym, ap, ◌∙◌}
use lib.ListN.{drop, drop_of_length-le}
use Rattle.print_lines.specs.InnerText.{Line, line_of, with_text}
use Rattle.print_lines.proofs.TextLaws.{text_next}
use Rattle.print_lines.proofs.text.put.Goals as goal

pub loop-byte-preserved : goal.loop-byte-preserved
loop-byte-preserved c =
    let l = c.loop-byte in
    let words = c.args.words.now in
    ap (λ (x : Line). with_text x (drop (l.byte-index + 1) words)) c.put_byte-to.ensures
    ∙ sym (text_next (line_of l.line l.to) words l.byte-index c.loop-byte-test.true)
    ∙ l.invariant

pub returns : goal.returns
unfolding with_text
returns c =
    let l = c.loop-byte in
    let words = c.args.words.now in
    rw (drop_of_length-le words {i = l.byte-index} c.loop-byte-test.false) at l.invariant

pub loop-byte-init : goal.loop-byte-init
loop-byte-init c = refl
