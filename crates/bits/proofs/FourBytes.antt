-- Four bytes at once: what the code computes of them is the run of bits; and a number that is put into them is the number that they are.
-- Assumes nothing.
use Prim.Native.Nat.{ℕ, zero, suc, ◌+◌, ◌*◌, ◌<◌, ◌≤◌, ◌/◌, ◌%◌, ◌^◌, ◌-◌}
use mathlib.Core.Path.{◌≡◌, ap, ◌∙◌}
use mathlib.Core.List.{List, ◌++◌}
use native.Mathlib.Omega.{arith}
use native.Mathlib.Nat.{mod-eq_of_lt}
use lib.ListN.{get_or, length}
use lib.Pow.{shr-shr, low, shl_exact}
use lib.Seq.{get_or-append-add}
use Rattle.bits.specs.Bits.{bit_at, bits_from}
use Rattle.bits.specs.Bytes.{byte_of, word_of}
use Rattle.bits.proofs.BitLaws.{bits_from-lt, bits_from-split, bits_from_prefix}

bit_in : (s : List ℕ) (i k : ℕ) → k < 8 → bit_at s (8 * i + k) ≡ get_or s i 0 / 2 ^ (7 - k) % 2
unfolding bit_at
bit_in s i k h =
    let q : (8 * i + k) / 8 ≡ i = omega arith in
    let r : (8 * i + k) % 8 ≡ k = omega arith in
    rw (q, r)

-- the first bits of a byte
byte-first : (s : List ℕ) (i k : ℕ) → get_or s i 0 < 256 → k ≤ 8 → bits_from s (8 * i) k ≡ get_or s i 0 / 2 ^ (8 - k)
unfolding bits_from
byte-first s i zero b h = omega arith
byte-first s i (suc k) b h =
    let r : bits_from s (8 * i) k ≡ get_or s i 0 / 2 ^ (8 - k) = byte-first s i k b (omega arith) in
    let e : 8 - k ≡ (7 - k) + 1 = omega arith in
    let f : 8 - suc k ≡ 7 - k = omega arith in
    let x : bits_from s (8 * i) k ≡ get_or s i 0 / 2 ^ (7 - k) / 2 = r ∙ rw (e, ← shr-shr) in
    rw (f, bit_in s i k h, x) (omega arith)

pub byte-is : (s : List ℕ) (i : ℕ) → get_or s i 0 < 256 → bits_from s (8 * i) 8 ≡ get_or s i 0
byte-is s i b = byte-first s i 8 b (omega arith) ∙ omega arith

-- four bytes
pub four_bytes : (s : List ℕ) (i : ℕ) → get_or s i 0 < 256 → get_or s (i + 1) 0 < 256 → get_or s (i + 2) 0 < 256 → get_or s (i + 3) 0 < 256
    → bits_from s (8 * i) 32 ≡ ((get_or s i 0 * 256 + get_or s (i + 1) 0) * 256 + get_or s (i + 2) 0) * 256 + get_or s (i + 3) 0
four_bytes s i b₀ b₁ b₂ b₃ =
    let a₀ = byte-is s i b₀ in
    let a₁ : bits_from s (8 * i + 8) 8 ≡ get_or s (i + 1) 0 =
    ap (λ (p : ℕ). bits_from s p 8) (let q : 8 * i + 8 ≡ 8 * (i + 1) = omega arith in q) ∙ byte-is s (i + 1) b₁ in
    let a₂ : bits_from s (8 * i + 16) 8 ≡ get_or s (i + 2) 0 =
    ap (λ (p : ℕ). bits_from s p 8) (let q : 8 * i + 16 ≡ 8 * (i + 2) = omega arith in q) ∙ byte-is s (i + 2) b₂ in
    let a₃ : bits_from s (8 * i + 24) 8 ≡ get_or s (i + 3) 0 =
    ap (λ (p : ℕ). bits_from s p 8) (let q : 8 * i + 24 ≡ 8 * (i + 3) = omega arith in q) ∙ byte-is s (i + 3) b₃ in
    omega (arith, bits_from-split s (8 * i) 8 8, bits_from-split s (8 * i) 16 8, bits_from-split s (8 * i) 24 8)

-- a run within four bytes
pub run_in : (s : List ℕ) (i r n : ℕ) → r + n ≤ 32 → bits_from s (8 * i) 32 / 2 ^ (32 - (r + n)) % 2 ^ n ≡ bits_from s (8 * i + r) n
run_in s i r n h =
    ap (λ (x : ℕ). x % 2 ^ n) (bits_from_prefix s (8 * i) (r + n) 32 h ∙ bits_from-split s (8 * i) r n)
    ∙ low (bits_from s (8 * i) r) n (bits_from-lt s (8 * i + r) n)

-- one, shifted left in a number of w bits
pub one_shl : (w n : ℕ) → n < w → 1 * 2 ^ n % 2 ^ w ≡ 2 ^ n
one_shl w n h = shl_exact {a = 1} 1 n w (omega arith) (omega arith) ∙ omega arith

-- what the code computes of four bytes
pub word-run : (s : List ℕ) (at n : ℕ) {a b c d : ℕ} → n ≤ 24 → (a ≡ get_or s (at / 8) 0) × (a < 256)
    → (b ≡ get_or s (at / 8 + 1) 0) × (b < 256)
    → (c ≡ get_or s (at / 8 + 2) 0) × (c < 256) → (d ≡ get_or s (at / 8 + 3) 0) × (d < 256)
    → (((a * 256 + b) * 256 + c) * 256 + d) / 2 ^ (32 - (at % 8 + n)) % (1 * 2 ^ n % 2 ^ 64) ≡ bits_from s at n
word-run s at n {a} {b} {c} {d} h p q r t =
    let w : ((a * 256 + b) * 256 + c) * 256 + d ≡ bits_from s (8 * (at / 8)) 32 =
    omega (arith, four_bytes s (at / 8) (omega arith) (omega arith) (omega arith) (omega arith)) in
    let e : 8 * (at / 8) + at % 8 ≡ at = omega arith in
    rw (one_shl 64 n (omega arith), w) (run_in s (at / 8) (at % 8) n (omega arith) ∙ ap (λ (x : ℕ). bits_from s x n) e)

joined : (x : ℕ) → x < 4294967296 → ((byte_of (x / 16777216) * 256 + byte_of (x / 65536)) * 256 + byte_of (x / 256)) * 256 + byte_of x ≡ x
joined x h =
    let b : x / 65536 ≡ x / 256 / 256 = omega arith in
    let a : x / 16777216 ≡ x / 256 / 256 / 256 = omega arith in
    let first : x / 256 / 256 / 256 < 256 = rw (← a) (omega arith) in
    let more : (q : ℕ) → q / 256 * 256 + byte_of q ≡ q = λ q. omega arith in
    rw (a, b, mod-eq_of_lt first, more (x / 256 / 256), more (x / 256), more x)

-- the word of a number, in the midst of bytes, is the number
pub word_back : (pre rest : List ℕ) (x : ℕ) → x < 4294967296 → bits_from (pre ++ (word_of x ++ rest)) (8 * length pre) 32 ≡ x
unfolding word_of
word_back pre rest x h =
    let s = pre ++ (word_of x ++ rest) in
    let b₀ : get_or s (length pre) 0 ≡ byte_of (x / 16777216) =
    ap (λ (i : ℕ). get_or s i 0) (let q : length pre ≡ length pre + 0 = omega arith in q) ∙ get_or-append-add pre (word_of x ++ rest) 0 0 in
    let b₁ = get_or-append-add pre (word_of x ++ rest) 1 0 in
    let b₂ = get_or-append-add pre (word_of x ++ rest) 2 0 in
    let b₃ = get_or-append-add pre (word_of x ++ rest) 3 0 in
    four_bytes s (length pre) (rw b₀ (omega arith)) (rw b₁ (omega arith)) (rw b₂ (omega arith)) (rw b₃ (omega arith))
    ∙ rw (b₀, b₁, b₂, b₃) (joined x h)
