-- The row of a channel stream, from what its reader answered: lines that were not written are 0.
-- Assumes nothing.
use mathlib.Core.Path.{◌≡◌}
use mathlib.Core.List.{[], ◌∷◌, append-nil}
use lib.IntN.{pos}
use lib.ListN.{replicate}
use Rattle.bits.specs.Reader.{Answer, got, refused}
use Rattle.channel.specs.Stream.{Stream}
use Rattle.channel.specs.Promise.{reading_of, lines_after}
use Rattle.sounding.specs.Sounding.{sounding}
use Rattle.sounding.proofs.SoundingLaws.{sounding-zeros}
use Rattle.image_outline.specs.Outline.{channel_row}

pub row_is : (x : Answer Stream)
    → (reading_of x).number
    ∷ (reading_of x).place
    ∷ (reading_of x).gain
    ∷ sounding (lines_after x (replicate 1024 (pos 0)))
    ∷ (reading_of x).bits
    ∷ []
    ≡ channel_row x
row_is (got x bits) = rw (append-nil x.coded.lines)
row_is (refused n place) = rw (sounding-zeros 1024)
