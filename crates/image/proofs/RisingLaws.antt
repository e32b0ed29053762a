-- Offsets that never fall, as a loop goes: k of n are seen.
-- Assumes nothing.
use Prim.Native.Nat.{ℕ, suc, ◌+◌, ◌*◌, ◌-◌, ◌<◌, ◌≤◌}
use mathlib.Core.Path.{◌≡◌}
use mathlib.Core.Bool.{true, false}
use mathlib.Core.List.{List}
use native.Mathlib.Omega.{arith}
use borrow.Author.Tests.{le-leb, lt-leb}
use Rattle.image.specs.Image.{pair_at, offset_of, rising}

module _ (s : List ℕ) (k n : ℕ) where
  -- the places of two offsets that follow each other, as the code computes them
  next-offset : offset_of s (k + 1) ≡ pair_at s (2 * k + 6)
  next-offset = let q : 2 * (k + 1) + 4 ≡ 2 * k + 6 = omega arith in rw q

  pub rising-more : k < n → pair_at s (2 * k + 4) ≤ pair_at s (2 * k + 6) → rising s k (n - k) ≡ rising s (k + 1) (n - (k + 1))
  unfolding rising
  rising-more h l =
      let q : n - k ≡ suc (n - (k + 1)) = omega arith in
      rw (q, next-offset, le-leb (pair_at s (2 * k + 4)) (pair_at s (2 * k + 6)) l)

  pub rising-stop : k < n → pair_at s (2 * k + 6) < pair_at s (2 * k + 4) → rising s k (n - k) ≡ false
  unfolding rising
  rising-stop h l =
      let q : n - k ≡ suc (n - (k + 1)) = omega arith in
      rw (q, next-offset, lt-leb (pair_at s (2 * k + 4)) (pair_at s (2 * k + 6)) l)

  pub rising-done : n ≤ k → rising s k (n - k) ≡ true
  unfolding rising
  rising-done h = let q : n - k ≡ 0 = omega arith in rw q
