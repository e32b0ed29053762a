-- What the bit reader takes: the field at its place, in its payload.
use Rattle.std.specs.Prelude.{ℕ, ◌*◌, min, ◌≡◌, List, leb, length}
use Rattle.std.specs.Borrow.{Bor}
use Rattle.bits.specs.Reader.{Answer, got, refused, pick}
use Rattle.bits.specs.Field.{field}
use Rattle.bit_reader.specs.declared.Took.{Took}
use Rattle.bit_reader.specs.declared.BitReader.{BitReader}

-- the place after the last bit; a place is a number of 64 bits
abbrev pub last_place : List ℕ → ℕ
last_place s = min (8 * length s) 18446744073709551615

-- an answer, beside the place that it leaves the reader at
abbrev pub took_of : Answer ℕ → ℕ → Took
took_of (got v next) at = record { number = 0; value = v; next = next }
took_of (refused n place) at = record { number = n; value = 0; next = at }

-- n bits; more than 32 are answered 10, as if they weren't there: the number that an answer holds has 32 bits
unfoldable pub took_at : List ℕ → ℕ → ℕ → Took
took_at s at n = took_of (pick (leb n 32) (field n s at (last_place s)) (refused 10 at)) at

-- what is promised of a reader at the first bit: the slice is the one that was lent
abbrev pub HoldPromise : Bor (List ℕ) → BitReader → Type 0
HoldPromise src r = (r.src ≡ src) × (r.at ≡ 0)

-- of a field at a place
abbrev pub TookAtPromise : List ℕ → ℕ → ℕ → Took → Type 0
TookAtPromise s at n t = t ≡ took_at s at n

-- and of the next field: what was taken, the slice still the same, and the place that it leaves the reader at
abbrev pub TakePromise : BitReader → ℕ → Took → BitReader → Type 0
TakePromise r n t after = (t ≡ took_at r.src.now r.at n) × (after.src ≡ r.src) × (after.at ≡ t.next)
