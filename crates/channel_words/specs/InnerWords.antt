-- For contracts of inner functions only: the values of a word, by any reader of its entry.
use Rattle.std.specs.Prelude.{ℕ, ◌+◌, ◌*◌, ◌<◌, ◌≤◌, ◌^◌, ◌≡◌, List, ◌⊎◌, eqb, length, replicate, ℤ, pos}
use Rattle.bits.specs.Reader.{Reader, got, give, pick, ◌>>=◌}
use Rattle.bits.specs.Loop.{counted}
use Rattle.words.specs.Escape.{escape}
use Rattle.words.specs.InnerLookup.{looked}
use Rattle.tables.specs.GeneratedNames.{table_at}
use Rattle.channel_words.specs.Books.{Book, book}
use Rattle.channel_words.specs.Tuple.{spectral_word, value, escaped, put}

-- a book of so many values, whatever its number
abbrev pub kind : ℕ → ℕ → ℕ → Book
kind dim base offset = book 0 dim base offset

-- how many sign bits a number has
abbrev pub signs : ℕ → ℕ
signs d = pick (eqb d 0) 0 1

-- a word, and the sign bits of its values
unfoldable pub values_by : Reader ℕ → Book → Reader (List ℤ)
values_by word b = word >>= λ entry. counted 0 b.dim (value b entry) (replicate 4 (pos 0))

-- the values of a word put in the lines, from a line on
unfoldable pub put_by : Reader ℕ → Book → ℕ → List ℤ → Reader (List ℤ)
put_by word b line lines = values_by word b >>= λ vs. give (put lines line b.dim vs)

-- the t-th word of a band that starts at a line
abbrev pub words_by : Reader ℕ → Book → ℕ → ℕ → List ℤ → Reader (List ℤ)
words_by word b first t = put_by word b (first + t * b.dim)

-- a number, or the escape that it is the flag of
unfoldable pub magnitude_of : ℕ → Reader ℕ
magnitude_of d = pick (eqb d 16) escape (give d)

-- two unsigned values and their escapes put in the lines, from a line on: in a book with fewer numbers than 17 no value is the flag
unfoldable pub put_escaped : Reader ℕ → ℕ → ℕ → List ℤ → Reader (List ℤ)
put_escaped word base line lines = values_by word (kind 2 base 0) >>= λ vs. counted 0 2 escaped vs >>= λ us. give (put lines line 2 us)

-- the t-th word of a band of unsigned pairs that starts at a line
abbrev pub escaped_by : Reader ℕ → ℕ → ℕ → ℕ → List ℤ → Reader (List ℤ)
escaped_by word base first t = put_escaped word base (first + t * 2)

-- what is asked of a lookup by k bits first: its first elements are there, a word takes 20 bits at most, before the end, and its entry is
-- one of so many
pub record Readable (look : List ℕ) (k count : ℕ) : Type 0 where
  pub narrow : k ≤ 20
  pub enough : 2 ^ k ≤ length look
  pub inside : (s : List ℕ) (at end entry next : ℕ) → looked look k s at end ≡ got entry next
      → (at ≤ next) × (next ≤ end) × (next ≤ at + 20) × (entry < count)

-- how many numbers a value of an unsigned pair can be
abbrev pub PairBase : ℕ → Type 0
PairBase base = (base ≡ 8) ⊎ ((base ≡ 13) ⊎ (base ≡ 17))

-- the lookup of the spectral book of a number
pub record BookLookup (look : List ℕ) (k number : ℕ) : Type 0 where
  pub readable : Readable look k (table_at number).count
  pub reads : (s : List ℕ) (at end : ℕ) → looked look k s at end ≡ spectral_word number s at end
