-- The leaf of the window at the place, and its answer.
use Rattle.bits.proofs.WindowLaws.{window-lt}
use Rattle.words.proofs.LookupSteps.{looked-by}
use Rattle.words.proofs.lookup.read_word.Goals as goal

pub leaf-requires : goal.leaf-requires
leaf-requires c =
    (c.requires.0, c.requires.1, rw c.window-w.ensures (window-lt _ _ _))

pub returns : goal.returns
returns c = looked-by _ _ _ _ _ c.window-w.ensures c.leaf.ensures.0 c.answer.ensures
