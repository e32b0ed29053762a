-- Code words. A table is a list of words, each a number, and a list of their lengths in bits; an entry's number is its place.
use Rattle.std.specs.Prelude.{ℕ, ◌+◌, ◌-◌, ◌/◌, ◌^◌, List, [], ◌∷◌, Bool, false, ◌&&◌, ◌||◌, leb, ltb, eqb}
use Rattle.bits.specs.Bits.{bits_from}
use Rattle.bits.specs.Reader.{got, refused, Reader, pick}

-- the word c of l bits is a prefix of the bits from a place up to the end
unfoldable pub fits : ℕ → ℕ → List ℕ → ℕ → ℕ → Bool
fits c l s at end = leb l (end - at) && eqb (bits_from s at l) c

-- the bits from a place up to the end are a proper prefix of the word c of l bits
unfoldable pub cut_off : ℕ → ℕ → List ℕ → ℕ → ℕ → Bool
cut_off c l s at end = ltb (end - at) l && eqb (bits_from s at (end - at)) (c / 2 ^ (l - (end - at)))

-- the entry, from i on, whose word is a prefix of the bits; else 10 where they are the start of a word, here or before; else 11
unfoldable pub scan : List ℕ → List ℕ → ℕ → Bool → Reader ℕ
scan [] lens i short s at end = pick short (refused 10 at) (refused 11 at)
scan (c ∷ codes) [] i short s at end = pick short (refused 10 at) (refused 11 at)
scan (c ∷ codes) (l ∷ lens) i short s at end =
    pick (fits c l s at end) (got i (at + l)) (scan codes lens (i + 1) (short || cut_off c l s at end) s at end)

-- the word at a place
unfoldable pub word : List ℕ → List ℕ → Reader ℕ
word codes lens = scan codes lens 0 false
