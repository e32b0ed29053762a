-- The entry's two digits less the offset are the values.
use mathlib.Core.Path.{sym}
use mir.Syntax.{w16}
use mir.ValLaws.{to_z-of_z}
use Rattle.channel_words.proofs.ValueLaws.{signed-two}
use Rattle.channel_words.proofs.pairs.SignedPairKind.read.Goals as goal

pub returns : goal.returns
returns c =
    rw (
      to_z-of_z w16 _ (record { sfits = c.lowered.type_inv }),
      c.lowered.ensures,
      to_z-of_z w16 _ (record { sfits = c.lowered-2.type_inv }),
      c.lowered-2.ensures,
    )
    (sym (signed-two _ _ _ _ _ _ (sym c.in_ok-entry.ensures)))
