-- After each turn the phases so far stand one after another, each after the records before it.
use Rattle.stereo_writer.proofs.WroteLaws.{wrote_none, wrote_nothing, wrote_as, wrote_more, wrote_sent, record-more}
use Rattle.stereo_writer.specs.Spelling.{spell_phases, spell_all_phases}
use Rattle.stereo.specs.Extension.{ipds, opds}
use lib.ListN.{length, take}
use borrow.Author.Tests.{eq-eqb, ne_eqb}
use borrow.Author.Rules.{rules}
use native.Mathlib.Omega.{arith}
use mathlib.Core.Path.{◌≡◌, refl}
use Rattle.stereo_writer.proofs.extensions.put_all_phases.Goals as goal

pub returns-then-on-ne1 : goal.returns-then-on-ne1
unfolding spell_all_phases
returns-then-on-ne1 c = wrote_nothing (rw (ne_eqb _ _ c.if-on-ne1.true))

pub loop-p-init : goal.loop-p-init
loop-p-init c = (refl, refl, wrote_none)

pub loop-p-preserved : goal.loop-p-preserved
loop-p-preserved c =
    let a = c.args in
    let l = c.loop-p in
    let sent = take c.min.result a.phases in
    let k = l.p-index in
    let put = rw (l.invariant.0, l.invariant.1) at c.put_phases.ensures in (
      record-more (λ p. p.ipd) ipds refl (λ p ps. refl) a.records.ipd a.mode sent k _ c.loop-p-test.true,
      record-more (λ p. p.opd) opds refl (λ p ps. refl) a.records.opd a.mode sent k _ c.loop-p-test.true,
      wrote_more (spell_phases a.mode a.records.ipd a.records.opd) _ sent k c.loop-p-test.true l.invariant.2 put,
    )

pub returns : goal.returns
unfolding spell_all_phases
returns c =
    let a = c.args in
    let l = c.loop-p in
    let k = l.p-index in
    let four : length a.phases ≡ 4 = search rules in
    let each = spell_phases a.mode a.records.ipd a.records.opd in
    let all = wrote_sent 1362 each a.n c.min.result k a.phases four c.min.ensures (omega arith) (omega arith) l.invariant.2 in
    wrote_as all (rw (eq-eqb a.on 1 c.if-on-ne1.false))
