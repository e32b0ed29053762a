-- The size, esc_count and the part are put in the order of the spelling.
use Rattle.stereo_writer.proofs.WroteLaws.{wrote_none, wrote_nothing, wrote_then, wrote_as, wrote-most}
use Rattle.stereo_writer.specs.Spelling.{spell_extension, spell_sent, spell_announced}
use native.Mathlib.Omega.{arith}
use Rattle.stereo_writer.proofs.extensions.put_extension.Goals as goal

pub returns-then-not-on : goal.returns-then-not-on
unfolding spell_extension
returns-then-not-on c = wrote_nothing (rw c.if-not-on.true)

pub returns-then-is_empty : goal.returns-then-is_empty
unfolding spell_extension spell_sent spell_announced
returns-then-is_empty c =
    let sent = wrote_then c.put.ensures c.put_if.ensures in
    wrote_as (wrote-most (wrote_then sent (wrote_none {most = 0})) (omega arith))
    (rw (c.if-not-on.false, ← c.is_empty.ensures, c.if-is_empty.true))

pub returns : goal.returns
unfolding spell_extension spell_sent spell_announced
returns c =
    let sent = wrote_then c.put.ensures c.put_if.ensures in
    wrote_as (wrote_then sent c.put_part.ensures) (rw (c.if-not-on.false, ← c.is_empty.ensures, c.if-is_empty.false))
