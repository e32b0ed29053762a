-- What a word of a spectral book stands for: a tuple of values, with sign bits and escapes, and the lines that it fills.
use Rattle.std.specs.Prelude.{ℕ, zero, suc, ◌+◌, ◌-◌, ◌/◌, ◌%◌, ◌^◌, List, eqb, get_or, set, replicate, ℤ, pos, neg_ℤ, ◌-ℤ◌, nat_abs}
use Rattle.std.specs.Int.Signed.{lt_z}
use Rattle.bits.specs.Reader.{Reader, give, pick, ◌>>=◌}
use Rattle.bits.specs.Field.{field}
use Rattle.bits.specs.Loop.{counted}
use Rattle.words.specs.Escape.{escape}
use Rattle.tables.specs.Tables.{word_of}
use Rattle.tables.specs.GeneratedNames.{table_at}
use Rattle.channel_words.specs.Books.{Book}

-- the entry of a word of a spectral book, whose table stands at its number
unfoldable pub spectral_word : ℕ → Reader ℕ
spectral_word number = word_of (table_at number)

-- the j-th number of an entry in a mixed count, the first the most significant
unfoldable pub digit : Book → ℕ → ℕ → ℕ
digit b entry j = entry / b.base ^ (b.dim - 1 - j) % b.base

-- a magnitude with a sign bit: 1 is negative
unfoldable pub signed : ℕ → ℕ → ℤ
signed m sign = pick (eqb sign 1) (neg_ℤ (pos m)) (pos m)

-- the j-th value: of a signed book its number less the offset; of an unsigned one 0, or a number with a sign bit
unfoldable pub value : Book → ℕ → ℕ → List ℤ → Reader (List ℤ)
value b entry j vs =
    pick (eqb b.offset 0)
    (pick (eqb (digit b entry j) 0) (give vs) (field 1 >>= λ sign. give (set vs j (signed (digit b entry j) sign))))
    (give (set vs j (pos (digit b entry j) -ℤ pos b.offset)))

-- an escape, which is the magnitude of the j-th value, with a sign bit
unfoldable pub escape_at : ℕ → ℕ → List ℤ → Reader (List ℤ)
escape_at sign j vs = escape >>= λ m. give (set vs j (signed m sign))

-- the j-th value where 16 of either sign is the escape flag
unfoldable pub escaped : ℕ → List ℤ → Reader (List ℤ)
escaped j vs = pick (eqb (nat_abs (get_or vs j (pos 0))) 16) (escape_at (pick (lt_z (get_or vs j (pos 0)) (pos 0)) 1 0) j vs) (give vs)

-- the values of a word, in four places: the word, the sign bits, then the escapes, which book 11 has
unfoldable pub tuple : Book → Reader (List ℤ)
tuple b = do
  entry ← spectral_word b.number
  vs ← counted 0 b.dim (value b entry) (replicate 4 (pos 0))
  pick (eqb b.number 11) (counted 0 2 escaped vs) (give vs)

-- the first n of some values put in the lines, from line k on
unfoldable pub put : List ℤ → ℕ → ℕ → List ℤ → List ℤ
put lines k zero vs = lines
put lines k (suc n) vs = set (put lines k n vs) (k + n) (get_or vs n (pos 0))
