-- A window is the bits from a place on, filled up with zeros: its first bits are theirs as far as they go.
-- Assumes nothing.
use Prim.Native.Nat.{ℕ, suc, ◌+◌, ◌*◌, ◌<◌, ◌≤◌, ◌/◌, ◌%◌, ◌^◌, ◌-◌, min}
use mathlib.Core.Path.{◌≡◌, subst, sym, ap, ◌∙◌}
use mathlib.Core.List.{List}
use native.Mathlib.Omega.{arith}
use native.Mathlib.Nat.{mul-one, mul_assoc}
use lib.ListN.{get_or}
use lib.Pow.{pow-add, shr-shr, shl-shr, shl_lt, shl_exact}
use Rattle.bits.specs.Bits.{bits_from}
use Rattle.bits.specs.InnerWindow.{window_of}
use Rattle.bits.proofs.BitLaws.{bit_at_lt, bits_from-lt, bits_from_prefix}
use Rattle.bits.proofs.FourBytes.{four_bytes, run_in}

pub window-lt : (s : List ℕ) (at have : ℕ) → window_of s at have < 2 ^ 24
unfolding window_of
window-lt s at have =
    let m = min 24 have in
    subst (λ (y : ℕ). bits_from s at m * 2 ^ (24 - m) < 2 ^ y) (let y : m + (24 - m)
    ≡ 24 = omega arith in y) (shl_lt m (24 - m) (bits_from-lt s at m))

-- its first bits are the bits at the place, where they are there
pub window_prefix : (s : List ℕ) (at have l : ℕ) → l ≤ 24 → l ≤ have → window_of s at have / 2 ^ (24 - l) ≡ bits_from s at l
unfolding window_of
window_prefix s at have l h g =
    let m = min 24 have in
    let q : 24 - l ≡ (24 - m) + (m - l) = omega arith in
    rw (q, ← shr-shr, shl-shr) (bits_from_prefix s at l m (omega arith))

-- and all that are there, where they are fewer
pub window-cut : (s : List ℕ) (at have l : ℕ) → l ≤ 24 → have < l →
    window_of s at have / 2 ^ (24 - l) ≡ bits_from s at have * 2 ^ (l - have)
unfolding window_of
window-cut s at have l h g =
    let e : min 24 have ≡ have = omega arith in
    let q : 24 - have ≡ (l - have) + (24 - l) = omega arith in
    rw (e, q, pow-add 2 (l - have) (24 - l), ← mul_assoc, shl-shr)

-- what the code computes of four bytes
pub window-run : (s : List ℕ) (at have : ℕ) {a b c d : ℕ} → 24 ≤ have → (a ≡ get_or s (at / 8) 0) × (a < 256)
    → (b ≡ get_or s (at / 8 + 1) 0) × (b < 256) → (c ≡ get_or s (at / 8 + 2) 0) × (c < 256) → (d ≡ get_or s (at / 8 + 3) 0) × (d < 256)
    → (((a * 256 + b) * 256 + c) * 256 + d) / 2 ^ (8 - at % 8) % 16777216 ≡ window_of s at have
unfolding window_of
window-run s at have {a} {b} {c} {d} h p q r t =
    let w : ((a * 256 + b) * 256 + c) * 256 + d ≡ bits_from s (8 * (at / 8)) 32 =
    omega (arith, four_bytes s (at / 8) (omega arith) (omega arith) (omega arith) (omega arith)) in
    let e : 8 * (at / 8) + at % 8 ≡ at = omega arith in
    let m : min 24 have ≡ 24 = omega arith in
    let z : 8 - at % 8 ≡ 32 - (at % 8 + 24) = omega arith in
    rw (m, w, z)
    (run_in s (at / 8) (at % 8) 24 (omega arith) ∙ ap (λ (x : ℕ). bits_from s x 24) e ∙ sym (mul-one (bits_from s at 24)))

-- of the last ones
pub window-last : (s : List ℕ) (at have : ℕ) {n v : ℕ} → n ≡ min have 24 → v ≡ bits_from s at n
    → v * 2 ^ (24 - n) % 2 ^ 32 ≡ window_of s at have
unfolding window_of
window-last s at have {n} q e =
    let m : min 24 have ≡ n = omega arith in
    rw (m, e) (shl_exact n (24 - n) 32 (bits_from-lt s at n) (omega arith))

-- of none
pub window-none : (s : List ℕ) (at have : ℕ) → have ≡ 0 → 0 ≡ window_of s at have
unfolding window_of bits_from
window-none s at have e = rw e

-- a bit of it, where it is there
pub window_bit : (s : List ℕ) (at have i : ℕ) → i < 24 → i < have → window_of s at have / 2 ^ (23 - i) % 2 ≡ bits_from s (at + i) 1
unfolding bits_from
window_bit s at have i h g =
    let q : 23 - i ≡ 24 - suc i = omega arith in
    let z : at + i + 0 ≡ at + i = omega arith in
    rw (q, window_prefix s at have (suc i) (omega arith) (omega arith), z) (omega (arith, bit_at_lt s (at + i)))
