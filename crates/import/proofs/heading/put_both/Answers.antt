-- Two pairs, one after another, make one run.
-- Assumes nothing.
use native.Mathlib.Omega.{arith}
use lib.ListN.{get_or}
use Rattle.import.specs.InnerHeading.{start_of}
use Rattle.import.proofs.HeadingLaws.{both_put}
use Rattle.import.proofs.heading.put_both.Goals as goal

pub returns : goal.returns
returns c =
    let a = c.args in
    both_put a.image.now a.at a.base (start_of a.ends.now a.k) (get_or a.ends.now a.k 0) _ _ (omega arith)
    c.put_pair.ensures c.start_of.ensures.0 c.put_pair-2.ensures c.wide.ensures.0
