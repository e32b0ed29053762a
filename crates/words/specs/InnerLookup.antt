-- For contracts of inner functions only: lookup tables. An element below 16,384 is a leaf: 32 times an entry, and the length of its word.
-- Another is a link: 2,048 times 8 more than a count of further bits, and the place of the part that these bits choose from.
use Rattle.std.specs.Prelude.{ℕ, zero, suc, ◌+◌, ◌*◌, ◌-◌, ◌/◌, ◌%◌, ◌^◌, List, [], ◌∷◌, Bool, true, false, ◌&&◌, ◌||◌, leb, ltb, eqb}
use Rattle.std.specs.Prelude.{length, get_or}
use Rattle.bits.specs.Reader.{Answer, got, refused, Reader, pick}
use Rattle.bits.specs.InnerWindow.{window_of}
use Rattle.words.specs.Table.{is_prefix, apart}

-- of a leaf, the entry and the length; the entry 511 stands for no word, and its length tells after how many bits none is left
abbrev pub entry_in : ℕ → ℕ
entry_in e = e / 32

abbrev pub length_in : ℕ → ℕ
length_in e = e % 32

-- of a link, the count of further bits
abbrev pub further : ℕ → ℕ
further e = e / 2048 - 8

-- the element that a link leads to, of a window w of 24 bits of which d are behind
unfoldable pub next_element : List ℕ → ℕ → ℕ → ℕ → ℕ
next_element look w d e = pick (leb (d + further e) 24) (get_or look (e % 2048 + w / 2 ^ (24 - (d + further e)) % 2 ^ further e) 0) 0

-- where an element leads to, over at most n links
unfoldable pub leads_to : ℕ → List ℕ → ℕ → ℕ → ℕ → ℕ
leads_to zero look w d e = e
leads_to (suc n) look w d e = pick (ltb e 16384) e (leads_to n look w (d + further e) (next_element look w d e))

-- the leaf of a window: its first k bits choose the first element
unfoldable pub leaf_of : List ℕ → ℕ → ℕ → ℕ
leaf_of look k w = leads_to 2 look w k (get_or look (w / 2 ^ (24 - k)) 0)

-- the answer that a leaf stands for, where so many bits are left
unfoldable pub answered : ℕ → ℕ → ℕ → Answer ℕ
answered e at have =
    pick (leb (length_in e) have) (pick (eqb (entry_in e) 511) (refused 11 at) (got (entry_in e) (at + length_in e))) (refused 10 at)

-- the word at a place, looked up
unfoldable pub looked : List ℕ → ℕ → Reader ℕ
looked look k s at end = answered (leaf_of look k (window_of s at (end - at))) at (end - at)

-- some word of a table begins with the l bits q
abbrev pub begun : ℕ → ℕ → List ℕ → List ℕ → Bool
begun q l [] lens = false
begun q l (c ∷ codes) [] = false
begun q l (c ∷ codes) (m ∷ lens) = is_prefix q l c m || begun q l codes lens

-- a leaf of no word is right where no word is left after the l bits q, and one was left before the last of them
abbrev pub right_none : List ℕ → List ℕ → ℕ → ℕ → Bool
right_none codes lens l q = apart q l codes lens && (eqb l 0 || begun (q / 2) (l - 1) codes lens)

-- a leaf of a word is right where the l bits q are the entry's word
abbrev pub right_word : List ℕ → List ℕ → ℕ → ℕ → ℕ → Bool
right_word codes lens k l q =
    ltb k (length codes) && ltb k (length lens) && eqb (get_or lens k 0) l && eqb q (get_or codes k 0)

-- a leaf that is right for the d bits p
abbrev pub right_leaf : List ℕ → List ℕ → ℕ → ℕ → ℕ → Bool
right_leaf codes lens d p e =
    leb (length_in e) d
    && pick (eqb (entry_in e) 511) (right_none codes lens (length_in e) (p / 2 ^ (d - length_in e)))
    (right_word codes lens (entry_in e) (length_in e) (p / 2 ^ (d - length_in e)))

-- a test holds of all numbers below n
abbrev pub all_below : ℕ → (ℕ → Bool) → Bool
all_below zero f = true
all_below (suc n) f = f n && all_below n f

-- an element that leads to right leaves, over at most n links
abbrev pub right_element : ℕ → List ℕ → List ℕ → List ℕ → ℕ → ℕ → ℕ → Bool
right_element zero look codes lens d p e = right_leaf codes lens d p e
right_element (suc n) look codes lens d p e =
    pick (ltb e 16384) (right_leaf codes lens d p e)
    (leb (d + further e) 24
    && all_below (2 ^ further e)
    (λ j. right_element n look codes lens (d + further e) (p * 2 ^ further e + j) (get_or look (e % 2048 + j) 0)))

-- a lookup of a table of words, by k bits first: each of the first elements leads to right leaves
abbrev pub right_lookup : ℕ → List ℕ → List ℕ → List ℕ → Bool
right_lookup k look codes lens =
    leb k 20 && leb (2 ^ k) (length look) && all_below (2 ^ k) (λ i. right_element 2 look codes lens k i (get_or look i 0))
