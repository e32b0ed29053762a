-- The entry's four digits less the offset are the values.
use mathlib.Core.Path.{sym}
use mir.Syntax.{w16}
use mir.ValLaws.{to_z-of_z}
use Rattle.channel_words.proofs.ValueLaws.{signed-four}
use Rattle.channel_words.proofs.quads.SignedQuadKind.read.Goals as goal

pub returns : goal.returns
returns c =
    rw (
      to_z-of_z w16 _ (record { sfits = c.lowered.type_inv }),
      c.lowered.ensures,
      to_z-of_z w16 _ (record { sfits = c.lowered-2.type_inv }),
      c.lowered-2.ensures,
      to_z-of_z w16 _ (record { sfits = c.lowered-3.type_inv }),
      c.lowered-3.ensures,
      to_z-of_z w16 _ (record { sfits = c.lowered-4.type_inv }),
      c.lowered-4.ensures,
    )
    (sym (signed-four _ _ _ _ _ _ (sym c.in_ok-entry.ensures)))
