-- Numbers as bytes, and values over what a buffer held.
use Rattle.std.specs.Prelude.{ℕ, ◌+◌, ◌/◌, ◌%◌, List, [], ◌∷◌, ◌++◌, Bool, length, take, drop}
use Rattle.bits.specs.Reader.{pick}

-- a number below 256 is its byte
abbrev pub byte_of : ℕ → ℕ
byte_of x = x % 256

-- a flag is 1 or 0
abbrev pub flag_byte : Bool → ℕ
flag_byte on = pick on 1 0

-- a wider number is four bytes, the most significant first
unfoldable pub word_of : ℕ → List ℕ
word_of x = byte_of (x / 16777216) ∷ byte_of (x / 65536) ∷ byte_of (x / 256) ∷ byte_of x ∷ []

-- values from a place on, over what was there
unfoldable pub over : {A : Type 0} → List A → ℕ → List A → List A
over old at new = take at old ++ new ++ drop (at + length new) old
