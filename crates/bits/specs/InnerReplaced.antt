-- For contracts of inner functions only: a number some of whose bits are another number's.
use Rattle.std.specs.Prelude.{ℕ, ◌+◌, ◌*◌, ◌/◌, ◌%◌, ◌^◌}

-- a number whose m bits from weight 2 ^ k up are the low m bits of v
unfoldable pub replaced_bits : ℕ → ℕ → ℕ → ℕ → ℕ
replaced_bits x k m v = (x / 2 ^ (k + m) * 2 ^ m + v % 2 ^ m) * 2 ^ k + x % 2 ^ k
