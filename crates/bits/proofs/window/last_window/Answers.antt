-- The bits that there are, 24 at most, are moved up to the front of the window.
use Rattle.bits.proofs.WindowLaws.{window-last}
use Rattle.bits.proofs.window.last_window.Goals as goal

pub returns : goal.returns
returns c = window-last _ _ _ c.min-n.ensures c.bits_at.ensures
