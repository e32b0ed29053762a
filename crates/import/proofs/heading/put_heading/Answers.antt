-- The parts of the header, one after another, make one run.
-- Assumes nothing.
use native.Mathlib.Omega.{arith}
use Rattle.import.proofs.HeadingLaws.{heading-put}
use Rattle.import.proofs.heading.put_heading.Goals as goal

pub returns : goal.returns
returns c =
    let a = c.args in
    heading-put a.image.now a.at a.index a.count _ a.ends.now (omega arith) c.put_pair.ensures
    c.put_pair-2.ensures c.put_offsets.ensures c.start_of.ensures.0 c.put_pair-3.ensures
