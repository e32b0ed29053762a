-- Two bytes, the first the more significant.
use native.Mathlib.Omega.{arith}
use Rattle.image.specs.Image.{pair_at}
use Rattle.image.proofs.pair_at.Goals as goal

pub returns : goal.returns
unfolding pair_at
returns c =
    let a = c.wide.ensures in
    let b = c.wide-2.ensures in
    (rw (a.0, b.0), omega arith)
