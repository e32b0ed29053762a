-- Laws of bits and of runs of bits: bounds, parts, and that a run goes by its bits alone.
-- Assumes nothing.
use Prim.Native.Nat.{ℕ, zero, suc, ◌+◌, ◌*◌, ◌<◌, ◌≤◌, ◌/◌, ◌^◌, ◌-◌}
use mathlib.Core.Path.{◌≡◌, refl, ap, ◌∙◌}
use mathlib.Core.List.{List}
use native.Mathlib.Omega.{arith}
use native.Mathlib.Nat.{pow-suc, add-zero, add-suc, mul-one, add_assoc, mul_assoc}
use lib.Pow.{pow_mono, high}
use Rattle.bits.specs.Bits.{bit_at, bits_from}

pub bit_at_lt : (s : List ℕ) (i : ℕ) → bit_at s i < 2
unfolding bit_at
bit_at_lt s i = omega arith

pub bits_from-lt : (s : List ℕ) (at n : ℕ) → bits_from s at n < 2 ^ n
unfolding bits_from
bits_from-lt s at zero = omega arith
bits_from-lt s at (suc n) = rw pow-suc (omega (arith, bits_from-lt s at n, bit_at_lt s (at + n)))

-- a run of at most k bits is below 2 ^ k
pub bits_from-below : (s : List ℕ) (at n : ℕ) (k : ℕ) → n ≤ k → bits_from s at n < 2 ^ k
bits_from-below s at n k h = omega (arith, bits_from-lt s at n, pow_mono h)

-- a run of bits in two parts
pub bits_from-split : (s : List ℕ) (at m n : ℕ) → bits_from s at (m + n) ≡ bits_from s at m * 2 ^ n + bits_from s (at + m) n
unfolding bits_from
bits_from-split s at m zero = simp (add-zero, mul-one)
bits_from-split s at m (suc n) =
    rw (add-suc, pow-suc, bits_from-split s at m n, ← add_assoc at m n, ← mul_assoc)
    (omega arith)

-- the first l bits of a run of m
pub bits_from_prefix : (s : List ℕ) (at l m : ℕ) → l ≤ m → bits_from s at m / 2 ^ (m - l) ≡ bits_from s at l
bits_from_prefix s at l m h =
    let e : m ≡ l + (m - l) = omega arith in
    ap (λ (k : ℕ). bits_from s at k / 2 ^ (m - l)) e
    ∙ ap (λ (x : ℕ). x / 2 ^ (m - l)) (bits_from-split s at l (m - l))
    ∙ high (bits_from s at l) (m - l) (bits_from-lt s (at + l) (m - l))

-- the two lists have the same bits from a place up to an end
abbrev pub Same : List ℕ → List ℕ → ℕ → ℕ → Type 0
Same s t at end = (i : ℕ) → at ≤ i → i < end → bit_at s i ≡ bit_at t i

-- a run of bits goes by its bits alone
pub bits_from-same : (s t : List ℕ) (at n end : ℕ) → at + n ≤ end → Same s t at end → bits_from s at n ≡ bits_from t at n
unfolding bits_from
bits_from-same s t at zero end h q = refl
bits_from-same s t at (suc n) end h q =
    let e : bits_from s at n ≡ bits_from t at n = bits_from-same s t at n end (omega arith) q in
    let b : bit_at s (at + n) ≡ bit_at t (at + n) = q (at + n) (omega arith) (omega arith) in
    cc
