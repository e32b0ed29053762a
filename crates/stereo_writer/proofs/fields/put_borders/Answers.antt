-- After each turn the borders so far stand one after another, 5 bits each.
use Rattle.stereo_writer.proofs.WroteLaws.{wrote_none, wrote_nothing, wrote_as, wrote_more, wrote_sent}
use Rattle.stereo_writer.specs.Spelling.{spell_border, spell_borders}
use lib.ListN.{length, take}
use borrow.Author.Tests.{eq-eqb, ne_eqb}
use borrow.Author.Rules.{rules}
use native.Mathlib.Omega.{arith}
use mathlib.Core.Path.{◌≡◌}
use Rattle.stereo_writer.proofs.fields.put_borders.Goals as goal

pub returns-then-class-ne1 : goal.returns-then-class-ne1
unfolding spell_borders
returns-then-class-ne1 c = wrote_nothing (rw (ne_eqb _ _ c.if-class-ne1.true))

pub loop-border-init : goal.loop-border-init
loop-border-init c = wrote_none

pub loop-border-preserved : goal.loop-border-preserved
loop-border-preserved c =
    let l = c.loop-border in
    let sent = take c.min.result c.args.borders in
    wrote_more spell_border 0 sent l.border-index c.loop-border-test.true l.invariant c.put.ensures

pub returns : goal.returns
unfolding spell_borders
returns c =
    let a = c.args in
    let l = c.loop-border in
    let four : length a.borders ≡ 4 = search rules in
    let k = l.border-index in
    let all = wrote_sent 5 spell_border a.n c.min.result k a.borders four c.min.ensures (omega arith) (omega arith) l.invariant in
    wrote_as all (rw (eq-eqb a.class 1 c.if-class-ne1.false))
