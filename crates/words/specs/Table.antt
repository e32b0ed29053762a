-- What is right of a table: tests that are computed over the whole of it.
use Rattle.std.specs.Prelude.{ℕ, ◌+◌, ◌-◌, ◌/◌, ◌^◌, max, List, [], ◌∷◌, Bool, true, not, ◌&&◌, ◌||◌, leb, ltb, eqb, length}

-- the word c of l bits is a prefix of the word d of m bits
abbrev pub is_prefix : ℕ → ℕ → ℕ → ℕ → Bool
is_prefix c l d m = leb l m && eqb (d / 2 ^ (m - l)) c

-- a word is no prefix of any word of the lists, and none of them is a prefix of it
abbrev pub apart : ℕ → ℕ → List ℕ → List ℕ → Bool
apart c l [] lens = true
apart c l (d ∷ codes) [] = true
apart c l (d ∷ codes) (m ∷ lens) = not (is_prefix c l d m || is_prefix d m c l) && apart c l codes lens

-- the prefix rule: no word of the table is a prefix of another
abbrev pub prefix_free : List ℕ → List ℕ → Bool
prefix_free [] lens = true
prefix_free (c ∷ codes) [] = true
prefix_free (c ∷ codes) (l ∷ lens) = apart c l codes lens && prefix_free codes lens

-- the longest length
abbrev pub longest : List ℕ → ℕ
longest [] = 0
longest (l ∷ lens) = max l (longest lens)

-- the Kraft sum, in parts of 2 ^ m
abbrev pub kraft : ℕ → List ℕ → ℕ
kraft m [] = 0
kraft m (l ∷ lens) = 2 ^ (m - l) + kraft m lens

-- each word is a number of its length, which is at most m
abbrev pub sized : ℕ → List ℕ → List ℕ → Bool
sized m [] lens = true
sized m (c ∷ codes) [] = true
sized m (c ∷ codes) (l ∷ lens) = leb l m && ltb c (2 ^ l) && sized m codes lens

-- as many lengths as words, no word longer than 20 bits, the prefix rule, and the Kraft sum 1
abbrev pub complete_at : ℕ → List ℕ → List ℕ → Bool
complete_at m codes lens =
    eqb (length codes) (length lens) && leb m 20 && sized m codes lens && prefix_free codes lens && eqb (kraft m lens) (2 ^ m)

abbrev pub complete : List ℕ → List ℕ → Bool
complete codes lens = complete_at (longest lens) codes lens
