-- A lookup of an incomplete table, computed: the words 0 and 10, by two bits first. Its leaf of no word has the length 2, after which no
-- word is left. So the bits 11 give 11; and the bit 1 alone, which the word 10 begins with, gives 10.
-- Assumes nothing.
use Prim.Native.Nat.{ℕ}
use mathlib.Core.Path.{◌≡◌, refl}
use mathlib.Core.List.{List, [], ◌∷◌}
use lib.Dec.{T}
use Rattle.bits.specs.Bits.{bit_at, bits_from}
use Rattle.bits.specs.InnerWindow.{window_of}
use Rattle.bits.specs.Reader.{got, refused}
use Rattle.words.specs.Table.{prefix_free}
use Rattle.words.specs.InnerLookup.{next_element, leads_to, leaf_of, answered, looked, right_lookup}

unfoldable all : Unit {0}
unfolding bit_at bits_from window_of next_element leads_to leaf_of answered looked
all = tt

abbrev codes : List ℕ
codes = 0 ∷ 2 ∷ []

abbrev lens : List ℕ
lens = 1 ∷ 2 ∷ []

abbrev look : List ℕ
look = 1 ∷ 1 ∷ 34 ∷ 16354 ∷ []

-- it passes the test that the law asks for
right : T (right_lookup 2 look codes lens)
right = tt

free : T (prefix_free codes lens)
free = tt

-- with 10 in place of the leaf of no word it does not
wrong : T (right_lookup 2 (1 ∷ 1 ∷ 34 ∷ 34 ∷ []) codes lens) → ⊥
wrong t = t

second_word : looked look 2 (128 ∷ []) 0 8 ≡ got 1 2
unfolding all
second_word = refl

no_word : looked look 2 (192 ∷ []) 0 8 ≡ refused 11 0
unfolding all
no_word = refl

one_bit : looked look 2 (192 ∷ []) 0 1 ≡ refused 10 0
unfolding all
one_bit = refl

no_bit : looked look 2 (192 ∷ []) 0 0 ≡ refused 10 0
unfolding all
no_bit = refl
