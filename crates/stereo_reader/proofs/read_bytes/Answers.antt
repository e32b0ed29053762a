-- No payload goes further than 1,024 bytes, so looking at one more answers what looking at all of them would.
use mathlib.Core.Path.{sym, ◌∙◌}
use Rattle.stereo_reader.proofs.BytesLaws.{bytes_left, bytes-got, bytes-refused}
use Rattle.stereo_reader.proofs.read_bytes.Goals as goal

pub returns-then-left-gt7 : goal.returns-then-left-gt7
returns-then-left-gt7 c =
    let q = rw (c.read_from-before.ensures, c.min-end.ensures) at (sym c.in-Ok.ensures) in
    c.refused_at.ensures ∙ bytes_left _ _ _ _ q (rw (c.left.ensures, c.min-end.ensures) at c.if-left-gt7.true)

pub returns-else-left-gt7 : goal.returns-else-left-gt7
returns-else-left-gt7 c =
    let q = rw (c.read_from-before.ensures, c.min-end.ensures) at (sym c.in-Ok.ensures) in
    c.taken.ensures ∙ bytes-got _ _ _ _ q (rw (c.left.ensures, c.min-end.ensures) at c.if-left-gt7.false)

pub returns-in-Err : goal.returns-in-Err
returns-in-Err c =
    let q = rw (c.read_from-before.ensures, c.min-end.ensures) at (sym c.in-Err.ensures) in
    c.refused_at-in-Err.ensures ∙ bytes-refused _ _ _ _ q
