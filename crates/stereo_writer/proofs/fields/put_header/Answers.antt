-- The flag is put, and the fields where it is 1.
use Rattle.stereo_writer.proofs.WroteLaws.{wrote_then, wrote_as, wrote-most}
use Rattle.stereo_writer.specs.Spelling.{spell_header}
use borrow.Author.Tests.{eq-eqb, ne_eqb}
use native.Mathlib.Omega.{arith}
use Rattle.stereo_writer.proofs.fields.put_header.Goals as goal

pub returns-then-h-ne1 : goal.returns-then-h-ne1
unfolding spell_header
returns-then-h-ne1 c = wrote_as (wrote-most c.put.ensures (omega arith)) (rw (ne_eqb _ _ c.if-h-ne1.true))

pub returns : goal.returns
unfolding spell_header
returns c = wrote_as (wrote_then c.put.ensures c.put_fields.ensures) (rw (eq-eqb _ _ c.if-h-ne1.false))
