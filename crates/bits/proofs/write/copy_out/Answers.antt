-- The first n bytes of the scratch array are a part of it, and they are put over the front of the output.
use mathlib.Core.Path.{sym, ◌∙◌}
use native.Mathlib.Omega.{arith}
use lib.ListN.{take}
use lib.Seq.{length-take-le}
use Rattle.bits.proofs.OverLaws.{over-front}
use Rattle.bits.proofs.write.copy_out.Goals as goal

pub slice_bounds-put-end : goal.slice_bounds-put-end
slice_bounds-put-end c =
    let a = c.args in
    sym (length-take-le a.n a.scratch.now (omega arith))

pub put-requires : goal.put-requires
put-requires c =
    let a = c.args in
    let long = length-take-le a.n a.scratch.now (omega arith) in
    omega (arith, long)

pub returns : goal.returns
returns c =
    let entry = c.before.before.before.before.before.before.before in
    let a = entry.args in
    let long = length-take-le a.n a.scratch.now (omega arith) in
    c.put.ensures ∙ over-front a.out.now (take a.n a.scratch.now) a.n long
