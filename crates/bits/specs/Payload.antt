-- A payload is a byte range of a buffer, read from its first bit; at most 7 bits are left after it.
use Rattle.std.specs.Prelude.{ℕ, ◌*◌, ◌-◌, List, Bool, ◌&&◌, leb, length, take, drop}
use Rattle.bits.specs.Reader.{Answer, got, refused, Reader, pick, ◌>>=◌}

-- the range lies in a buffer of so many bytes, and its start is not after its end
abbrev pub in_buffer : ℕ → ℕ → ℕ → Bool
in_buffer start end size = leb start end && leb end size

-- the bytes of a range
abbrev pub range : List ℕ → ℕ → ℕ → List ℕ
range bytes start end = take (end - start) (drop start bytes)

-- where a payload stands: from a start to an end of a buffer
pub record Range : Type 0 where
  pub bytes : List ℕ
  pub start : ℕ
  pub end : ℕ

abbrev pub range_in : List ℕ → ℕ → ℕ → Range
range_in bytes start end = record { bytes = bytes; start = start; end = end }

-- it lies in its buffer
abbrev pub is_there : Range → Bool
is_there p = in_buffer p.start p.end (length p.bytes)

-- its bytes
abbrev pub bytes_in : Range → List ℕ
bytes_in p = range p.bytes p.start p.end

-- a value that was read, where at most 7 bits are left; else 12
unfoldable pub ended : {A : Type 0} → A → Reader A
ended a s at end = pick (leb (end - at) 7) (got a at) (refused 12 at)

-- a reader of a whole payload
unfoldable pub whole : {A : Type 0} → Reader A → List ℕ → Answer A
whole r bytes = (r >>= ended) bytes 0 (8 * length bytes)
