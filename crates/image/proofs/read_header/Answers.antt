-- Everything but the index is judged first, then the index.
use mathlib.Core.Path.{sym, ◌∙◌}
use Rattle.image.specs.Image.{header_of}
use Rattle.image.proofs.read_header.Goals as goal

pub sound_header-requires : goal.sound_header-requires
sound_header-requires c = sym c.is_sound.ensures ∙ c.if-is_sound.true

pub returns : goal.returns
unfolding header_of
returns c = rw (← c.is_sound.ensures, c.if-is_sound.false) c.refused_header.ensures
