-- The version of the functions for a program in C.
use Rattle.std.specs.Prelude.{ℕ, ◌+◌, ◌*◌, ◌≡◌}

-- three numbers as one
abbrev pub numbered : ℕ → ℕ → ℕ → ℕ
numbered first second third = 10000 * first + 100 * second + third

-- 3.1.0
unfoldable pub version : ℕ
version = numbered 3 1 0

-- everything that a call gives
abbrev pub VersionPromise : ℕ → Type 0
VersionPromise r = r ≡ version
