-- The sampling indices that streams have are small.
-- Assumes nothing.
use Prim.Native.Nat.{ℕ, ◌<◌, ◌≤◌}
use mathlib.Core.Path.{◌≡◌, refl}
use mathlib.Core.Bool.{Bool, true, false}
use native.Mathlib.Omega.{arith}
use lib.Dec.{ltb}
use borrow.Author.Tests.{ne_eqb, ltb-true, ltb-false}
use Rattle.bits.specs.Sampling.{known_index}
use Rattle.bits.proofs.Bools.{true-false}

pub large_unknown : (i : ℕ) → 8 ≤ i → known_index i ≡ false
large_unknown i h =
    rw (
      ne_eqb i 3 (λ z. absurd (omega arith)),
      ne_eqb i 4 (λ z. absurd (omega arith)),
      ne_eqb i 6 (λ z. absurd (omega arith)),
      ne_eqb i 7 (λ z. absurd (omega arith)),
    )

small_by : (i : ℕ) (b : Bool) → ltb i 8 ≡ b → known_index i ≡ true → i < 8
small_by i true e k = ltb-true i 8 e
small_by i false e k = absurd (true-false (known_index i) k (large_unknown i (ltb-false i 8 e)))

pub known_small : (i : ℕ) → known_index i ≡ true → i < 8
known_small i = small_by i (ltb i 8) refl
