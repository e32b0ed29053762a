-- An unsound state is refused first; a sound one leaves the rest to `write_sound`.
use Rattle.stereo_writer.specs.Writing.{writing, written_over}
use mathlib.Core.Path.{sym, ◌∙◌}
use Rattle.stereo_writer.proofs.writing.write.Goals as goal

pub returns-then-not-is_sound : goal.returns-then-not-is_sound
unfolding writing written_over
returns-then-not-is_sound c = (
  c.refused.ensures ∙ rw (← c.is_sound.ensures, c.if-not-is_sound.true),
  rw c.refused.ensures,
)

pub write_sound-requires : goal.write_sound-requires
write_sound-requires c = sym c.is_sound.ensures ∙ c.if-not-is_sound.false
