-- For contracts of inner functions only: what stands at a mark of a row, a number or a letter.
use Rattle.std.specs.Prelude.{ℕ, ◌+◌, Bool, eqb}
use Prim.Native.Char.{Char, code}
use Rattle.bits.specs.Reader.{pick}

-- a letter stands at a mark as one of the last 256 numbers of 64 bits
abbrev pub letter : Char → ℕ
letter c = 18446744073709551360 + code c

-- a dash, where there is none
abbrev pub none : ℕ
none = letter "-"

-- a mode, where there is one
abbrev pub mode_mark : Bool → ℕ → ℕ
mode_mark there mode = pick there mode none

-- how a kind was coded, where it was sent: across time or across frequency
abbrev pub direction_mark : Bool → ℕ → ℕ
direction_mark sent time = pick sent (pick (eqb time 1) (letter "t") (letter "f")) none
