-- Each turn puts the next lower bit: what is put so far and what is left make all of them.
-- Assumes nothing.
use Prim.Native.Nat.{◌<◌}
use mathlib.Core.Path.{◌≡◌, ◌∙◌}
use native.Mathlib.Omega.{arith}
use borrow.Author.Tests.{eq-eqb, ne_eqb}
use Rattle.print_lines.specs.InnerText.{line_of, with_text}
use Rattle.print_rows.specs.InnerFill.{fill_text}
use Rattle.print_rows.proofs.FillLaws.{bit_turn}
use Rattle.print_rows.proofs.lists.put_fill.Goals as goal

pub returns-then-count-eq0 : goal.returns-then-count-eq0
unfolding fill_text with_text
returns-then-count-eq0 c = rw (eq-eqb _ _ c.if-count-eq0.true) c.put_byte.ensures

pub loop-k-init : goal.loop-k-init
loop-k-init c = rw c.min-k.ensures

pub loop-k-preserved : goal.loop-k-preserved
loop-k-preserved c =
    let l = c.loop-k in
    let some : 0 < l.k = omega arith in
    bit_turn (line_of l.line l.to) _ c.args.value l.k some (rw c.bit_of.ensures at c.put_byte-to.ensures) ∙ l.invariant

pub returns : goal.returns
unfolding fill_text with_text
returns c =
    let l = c.loop-k in
    let e : l.k ≡ 0 = omega arith in
    rw (ne_eqb _ _ c.if-count-eq0.false) (rw e at l.invariant)
