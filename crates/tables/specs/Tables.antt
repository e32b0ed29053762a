-- A table is a run of entries of the list of all words, and of the list of all lengths.
use Rattle.std.specs.Prelude.{ℕ, List, [], ◌∷◌, Bool, take, drop, get_or}
use Rattle.bits.specs.Reader.{Reader}
use Rattle.bits.specs.Pieces.{Piece, piece}
use Rattle.words.specs.Words.{word}
use Rattle.words.specs.Table.{complete}
use Rattle.tables.specs.GeneratedWords.{all_codes, all_lens}

pub record Table : Type 0 where
  pub first : ℕ
  pub count : ℕ

abbrev pub table : ℕ → ℕ → Table
table first count = record { first = first; count = count }

-- count elements of a list, from the first on
abbrev pub run : List ℕ → ℕ → ℕ → List ℕ
run xs first count = take count (drop first xs)

abbrev pub codes_of : Table → List ℕ
codes_of t = run all_codes t.first t.count

abbrev pub lens_of : Table → List ℕ
lens_of t = run all_lens t.first t.count

-- the word of a table at a place
abbrev pub word_of : Table → Reader ℕ
word_of t = word (codes_of t) (lens_of t)

-- the spelling of an entry: its word; an entry that there is not has no bits
abbrev pub spell_word : Table → ℕ → List Piece
spell_word t k = piece (get_or (codes_of t) k 0) (get_or (lens_of t) k 0) ∷ []

-- the rule of a table: the prefix rule, and the Kraft sum 1
abbrev pub ruled : Table → Bool
ruled t = complete (codes_of t) (lens_of t)
