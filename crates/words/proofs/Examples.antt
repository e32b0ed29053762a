-- The escape at its limit, computed beside the bench's examples.
-- Assumes nothing.
use mathlib.Core.Path.{◌≡◌, refl}
use mathlib.Core.List.{[], ◌∷◌}
use Rattle.bits.specs.Bits.{bit_at, bits_from}
use Rattle.bits.specs.Reader.{refused}
use Rattle.bits.specs.Field.{field}
use Rattle.bits.specs.Places.{one_field}
use Rattle.words.specs.Escape.{ones, magnitude, escape}

unfoldable all : Unit {0}
unfolding bit_at bits_from field one_field ones magnitude escape
all = tt

-- nine ones, and bits that follow
nine_and_more : escape (255 ∷ 128 ∷ []) 0 16 ≡ refused 26 0
unfolding all
nine_and_more = refl

-- eight ones, and nothing more
eight : escape (255 ∷ []) 0 8 ≡ refused 10 0
unfolding all
eight = refl
