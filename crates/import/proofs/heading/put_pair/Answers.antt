-- Two stores, one after another, make a pair.
-- Assumes nothing.
use native.Mathlib.Omega.{arith}
use lib.ListN.{length-set}
use Rattle.import.proofs.HeadingLaws.{pair_put}
use Rattle.import.proofs.heading.put_pair.Goals as goal

pub bounds-image-at-2 : goal.bounds-image-at-2
bounds-image-at-2 c = simp length-set (omega arith)

pub returns : goal.returns
returns c =
    let a = c.args in
    pair_put a.image.now a.at a.x _ _ (omega arith) c.low_byte.ensures c.low_byte-2.ensures
