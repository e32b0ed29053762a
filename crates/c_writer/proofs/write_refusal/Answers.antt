-- Each return shows the tests of the definition up to the one that refused.
-- Assumes nothing.
use mathlib.Core.Path.{sym, ◌∙◌}
use borrow.Author.Tests.{le-leb, lt-leb}
use Rattle.c_writer.proofs.write_refusal.Goals as goal

pub returns-then-room-lt4 : goal.returns-then-room-lt4
returns-then-room-lt4 c = rw (lt-leb _ _ c.if-room-lt4.true)

pub returns-then-not-is_sound_at : goal.returns-then-not-is_sound_at
returns-then-not-is_sound_at c =
    rw (le-leb _ _ c.if-room-lt4.false, sym c.is_sound_at.ensures ∙ c.if-not-is_sound_at.true)

pub returns-then-size-lt582 : goal.returns-then-size-lt582
returns-then-size-lt582 c =
    let sound = c in
    rw (
      le-leb _ _ sound.if-room-lt4.false,
      sym sound.is_sound_at.ensures ∙ c.if-not-is_sound_at.false,
      lt-leb _ _ c.if-size-lt582.true,
    )

pub returns : goal.returns
returns c =
    let sound = c in
    rw (
      le-leb _ _ sound.if-room-lt4.false,
      sym sound.is_sound_at.ensures ∙ c.if-not-is_sound_at.false,
      le-leb _ _ c.if-size-lt582.false,
    )
