-- The header's refusal stands, then 1; past both tests the image has the payload.
-- Assumes nothing.
use mathlib.Core.Path.{ap}
use native.Mathlib.Omega.{arith}
use borrow.Author.Tests.{le-ltb, eq-eqb, ne_eqb}
use Rattle.image.specs.declared.Part.{Part}
use Rattle.image.specs.Image.{part_of}
use Rattle.image.proofs.PartLaws.{part-there}
use Rattle.image.proofs.part_of.Goals as goal

pub returns-then-header-ne0 : goal.returns-then-header-ne0
unfolding part_of
returns-then-header-ne0 c =
    let h = c.read_header-header in
    let r = c.refused_part.ensures in
    (rw (← h.ensures, ne_eqb _ _ c.if-header-ne0.true) r, rw r (omega arith), rw r (omega arith), rw r (omega arith))

pub returns-then-header-k : goal.returns-then-header-k
unfolding part_of
returns-then-header-k c =
    let h = c.read_header-header in (
      rw (← h.ensures, eq-eqb h.result.number 0 c.if-header-ne0.false, le-ltb _ _ c.if-header-k.true) c.refused_part-then-header-k.ensures,
      rw c.refused_part-then-header-k.ensures (omega arith),
      rw c.refused_part-then-header-k.ensures (omega arith),
      rw c.refused_part-then-header-k.ensures (omega arith),
    )

pub known_part-requires : goal.known_part-requires
known_part-requires c =
    let h = c.read_header-header.ensures in
    ap (λ (p : Part). p.number) (part-there _ _ (rw h at c.if-header-ne0.false) (rw h at c.if-header-k.false))
