-- For contracts of inner functions only: a window of 24 bits.
use Rattle.std.specs.Prelude.{ℕ, ◌*◌, ◌-◌, ◌^◌, min, List}
use Rattle.bits.specs.Bits.{bits_from}

-- the 24 bits from a place on where so many are left, with zeros for those that are not
unfoldable pub window_of : List ℕ → ℕ → ℕ → ℕ
window_of s at have = bits_from s at (min 24 have) * 2 ^ (24 - min 24 have)
