-- After each turn the rows so far stand one after another, each after the record before it.
use Rattle.stereo_writer.proofs.WroteLaws.{wrote_none, wrote_nothing, wrote_as, wrote_more, wrote_sent, record-more}
use Rattle.stereo_writer.specs.Spelling.{spell_next, spell_rows}
use lib.ListN.{length, take}
use borrow.Author.Rules.{rules}
use native.Mathlib.Omega.{arith}
use mathlib.Core.Path.{◌≡◌, refl}
use Rattle.stereo_writer.proofs.rows.put_rows.Goals as goal

pub returns-then-not-on : goal.returns-then-not-on
unfolding spell_rows
returns-then-not-on c = wrote_nothing (rw c.if-not-on.true)

pub loop-row-init : goal.loop-row-init
loop-row-init c = (refl, wrote_none)

pub loop-row-preserved : goal.loop-row-preserved
loop-row-preserved c =
    let a = c.args in
    let l = c.loop-row in
    let sent = take c.min.result a.rows in
    let k = l.row-index in
    let put = rw l.invariant.0 at c.put_row.ensures in (
      record-more (λ r. r) (λ rs. rs) refl (λ r rs. refl) a.rec a.mode sent k _ c.loop-row-test.true,
      wrote_more (spell_next a.kind a.mode a.rec) _ sent k c.loop-row-test.true l.invariant.1 put,
    )

pub returns : goal.returns
unfolding spell_rows
returns c =
    let a = c.args in
    let l = c.loop-row in
    let k = l.row-index in
    let four : length a.rows ≡ 4 = search rules in
    let each = spell_next a.kind a.mode a.rec in
    let all = wrote_sent 681 each a.n c.min.result k a.rows four c.min.ensures (omega arith) (omega arith) l.invariant.1 in
    wrote_as all (rw c.if-not-on.false)
