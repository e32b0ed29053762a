-- The word is put at the front.
-- Assumes nothing.
use mathlib.Core.Path.{◌∙◌}
use Rattle.c_adts.proofs.put_length.Goals as goal

pub returns : goal.returns
returns c = c.put.ensures ∙ rw c.word_of-word.ensures
