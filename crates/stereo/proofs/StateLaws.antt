-- The fresh state is sound, and what is lost of a state is as sound as it was.
-- Assumes nothing.
use mathlib.Core.Path.{◌≡◌, refl}
use mathlib.Core.Bool.{true}
use Rattle.stereo_indices.specs.Record.{zeros, none, sound_index, sound_from, sound_record}
use Rattle.stereo_indices.specs.Kind.{within}
use Rattle.stereo.specs.State.{fresh_setup, fresh, sound_setup, sound, lost}
use Rattle.stereo.specs.declared.State.{State}

-- the fresh state is sound, and so is what is lost of a sound one
pub fresh-sound : sound fresh ≡ true
unfolding sound fresh fresh_setup sound_setup sound_record sound_from sound_index none zeros within
fresh-sound = refl

pub lost-sound : (st : State) → sound (lost st) ≡ sound st
unfolding sound
lost-sound st = refl
