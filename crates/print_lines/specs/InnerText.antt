-- For contracts of inner functions only: a line of text as it is built, bytes put one after another into a buffer. What does not fit is
-- not put, and the line is full.
use Rattle.std.specs.Prelude.{ℕ, zero, suc, ◌+◌, ◌<◌, ◌%◌, ◌^◌, ◌≡◌, List, [], ◌∷◌, ◌++◌, Bool, eqb, leb, ltb, length, set, drop}
use Prim.Native.Char.{code}
use Prim.Native.String.{String, [] as no_text, ◌∷◌ as ◌then◌}
use Rattle.bits.specs.Reader.{pick}
use Rattle.bits.specs.Bytes.{over}
use Rattle.io.specs.Digits.{last_digits}

-- a buffer, and the place after what was put into it
pub record Line : Type 0 where
  pub bytes : List ℕ
  pub at : ℕ

abbrev pub line_of : List ℕ → ℕ → Line
line_of bytes at = record { bytes = bytes; at = at }

-- a byte more, where there is room
abbrev pub with_byte : Line → ℕ → Line
with_byte l b = pick (ltb l.at (length l.bytes)) (line_of (set l.bytes l.at b) (l.at + 1)) l

-- a text more
unfoldable pub with_text : Line → List ℕ → Line
with_text l [] = l
with_text l (b ∷ bs) = with_text (with_byte l b) bs

-- the bytes of a text
abbrev pub ascii : String → List ℕ
ascii no_text = []
ascii (c then s) = code c ∷ ascii s

-- how many of the first k powers of ten are not above a number
abbrev pub tens : ℕ → ℕ → ℕ
tens zero n = 0
tens (suc k) n = tens k n + pick (leb (10 ^ suc k) n) 1 0

-- a number in decimal; the last 256 of 64 bits stand for a letter each, that of their last 8 bits
unfoldable pub number_text : ℕ → List ℕ
number_text n = pick (leb 18446744073709551360 n) (n % 256 ∷ []) (last_digits 10 (tens 19 n + 1) n)

-- the byte 35, `#`, is a mark
abbrev pub is_mark : ℕ → Bool
is_mark b = eqb b 35

-- what stands for a byte of a form: for a mark the next number, where there is one; any other byte for itself
abbrev pub first_text : List ℕ → List ℕ
first_text [] = []
first_text (n ∷ ns) = number_text n

abbrev pub marked_text : ℕ → List ℕ → List ℕ
marked_text b ns = pick (is_mark b) (first_text ns) (b ∷ [])

-- a form, with the numbers in place of its marks
unfoldable pub form_text : List ℕ → List ℕ → List ℕ
form_text [] ns = []
form_text (b ∷ bs) ns = marked_text b ns ++ form_text bs (pick (is_mark b) (drop 1 ns) ns)

abbrev pub line : String → List ℕ → List ℕ
line form numbers = form_text (ascii form) numbers

-- a line holds a text at its front, and what it held past it; the place is after the text, where a byte more has room
abbrev pub HoldsLine : List ℕ → List ℕ → ℕ → List ℕ → Type 0
HoldsLine old text at new = (at ≡ length text) × (at < length new) × (new ≡ over old 0 text)
