-- A field of more than 20 bits is its last 20 bits and those before them, put together.
-- Assumes nothing.
use Prim.Native.Nat.{ℕ, ◌+◌, ◌*◌, ◌-◌, ◌<◌, ◌≤◌}
use mathlib.Core.Path.{◌≡◌, sym, ◌∙◌, ap, ap₂}
use mathlib.Core.List.{List}
use native.Mathlib.Omega.{arith}
use lib.Pow.{pow_mono}
use Rattle.bits.specs.Bits.{bits_from}
use Rattle.bits.proofs.BitLaws.{bits_from-split, bits_from-lt}

module _ (n : ℕ) (s : List ℕ) (at : ℕ) (above : 20 < n) {high low : ℕ} (first : high ≡ bits_from s at (n - 20))
    (last : low ≡ bits_from s (at + n - 20) 20) where
  -- of at most 32 bits, the first half has at most 12, and the second has 20
  pub halves-below : n ≤ 32 → (high < 4096) × (low < 1048576)
  halves-below h = (
    omega (arith, bits_from-lt s at (n - 20), pow_mono {i = n - 20} {j = 12} (omega arith)),
    omega (arith, bits_from-lt s (at + n - 20) 20),
  )

  pub both : high * 1048576 + low ≡ bits_from s at n
  both =
      let l : at + n - 20 ≡ at + (n - 20) = omega arith in
      ap₂ (λ (a b : ℕ). a * 1048576 + b) first (last ∙ ap (λ (m : ℕ). bits_from s m 20) l)
      ∙ sym (bits_from-split s at (n - 20) 20)
      ∙ ap (bits_from s at) (omega arith)
