-- So many values are copied after each turn; at the end all of them are put over what was there.
use mathlib.Core.Path.{◌≡◌, ◌∙◌}
use native.Mathlib.Omega.{arith}
use native.Mathlib.Numerals.{add-one}
use lib.ListN.{length, length-set}
use lib.Seq.{paste-suc}
use Rattle.bits.proofs.OverLaws.{pasted}
use Rattle.bits.proofs.bytes.put.Goals as goal

pub loop-i-preserved : goal.loop-i-preserved
loop-i-preserved g c =
    let a = c.args in
    let l = c.loop-i in
    let x = c.index-values-i in (
      simp length-set l.invariant.0,
      rw (l.invariant.1, x.is, paste-suc a.out.now a.at a.values.now l.i x.result (omega arith) (omega arith), add-one),
    )

pub returns : goal.returns
returns g c =
    let a = c.args in
    let l = c.loop-i in
    let e : l.i ≡ length a.values.now = omega arith in
    l.invariant.1 ∙ rw e (pasted a.out.now a.at a.values.now)
