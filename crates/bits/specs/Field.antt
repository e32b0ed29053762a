-- Fields: a run of bits that has to lie wholly before the end.
use Rattle.std.specs.Prelude.{ℕ, ◌+◌, leb, eqb}
use Rattle.bits.specs.Bits.{bits_from}
use Rattle.bits.specs.Reader.{Reader, got, refused, pick, expecting}

-- n bits, or 10 where they are not all before the end
unfoldable pub field : ℕ → Reader ℕ
field n s at end = pick (leb (at + n) end) (got (bits_from s at n) (at + n)) (refused 10 at)

-- a bit that has to be 0, or is refused
unfoldable pub zero_bit : ℕ → Reader ℕ
zero_bit n = expecting n (λ v. eqb v 0) (field 1)
