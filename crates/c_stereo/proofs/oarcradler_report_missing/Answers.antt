-- 4 where the bytes are not sound; else there are bytes enough, and the mark is one of them.
-- Assumes nothing.
use mathlib.Core.Path.{sym, ◌∙◌}
use native.Mathlib.Omega.{arith}
use Rattle.c_layout.proofs.StateLaws.{sound-long}
use Rattle.c_stereo.proofs.oarcradler_report_missing.Goals as goal

pub returns-then-not-is_sound_at : goal.returns-then-not-is_sound_at
returns-then-not-is_sound_at c =
    let no = sym c.is_sound_at.ensures ∙ c.if-not-is_sound_at.true in
    (rw no, rw no)

pub bounds-state-5 : goal.bounds-state-5
bounds-state-5 c = omega (arith, sound-long _ (sym c.is_sound_at.ensures ∙ c.if-not-is_sound_at.false))

pub returns : goal.returns
returns c =
    let yes = sym c.is_sound_at.ensures ∙ c.if-not-is_sound_at.false in
    (rw yes, rw yes)
