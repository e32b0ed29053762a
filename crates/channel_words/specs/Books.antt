-- The books: 0 is silent, and 1 to 11 are spectral.
use Rattle.std.specs.Prelude.{ℕ, List, [], ◌∷◌, Bool, eqb, get_or}

-- a book: its number, the values in a word, how many numbers a value can be, and the maximum that signed values are
-- offset by, 0 where values are unsigned
pub record Book : Type 0 where
  pub number : ℕ
  pub dim : ℕ
  pub base : ℕ
  pub offset : ℕ

abbrev pub book : ℕ → ℕ → ℕ → ℕ → Book
book number dim base offset = record { number = number; dim = dim; base = base; offset = offset }

-- a book that sends nothing: its words have no values
abbrev pub silent_book : Book
silent_book = book 0 0 0 0

abbrev pub is_silent : Book → Bool
is_silent b = eqb b.dim 0

-- 1, 2: four signed values up to 1. 3, 4: four unsigned up to 2. 5, 6: two signed up to 4. 7, 8: two unsigned up to 7.
-- 9, 10: two unsigned up to 12. 11: two unsigned up to 16
unfoldable pub books : List Book
books =
    silent_book ∷ book 1 4 3 1 ∷ book 2 4 3 1 ∷ book 3 4 3 0 ∷ book 4 4 3 0 ∷ book 5 2 9 4 ∷ book 6 2 9 4 ∷ book 7 2 8 0 ∷ book 8 2 8 0 ∷
    book 9 2 13 0 ∷ book 10 2 13 0 ∷ book 11 2 17 0 ∷ []

-- the book of a number; the numbers above 11, which no section has, send nothing
unfoldable pub book_of : ℕ → Book
book_of number = get_or books number silent_book
