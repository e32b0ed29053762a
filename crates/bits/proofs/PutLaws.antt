-- What is put at a place is read there, and the other bits are as they were.
-- Assumes nothing.
use Prim.Native.Nat.{ℕ, zero, suc, ◌+◌, ◌-◌, ◌*◌, ◌/◌, ◌%◌, ◌<◌, ◌≤◌, ◌^◌}
use mathlib.Core.Path.{◌≡◌, refl, sym, ◌∙◌, ap, subst}
use mathlib.Core.Logic.{◌≢◌, ◌⊎◌, inl, inr}
use mathlib.Core.List.{List, [], ◌∷◌, ◌++◌}
use native.Mathlib.Omega.{arith}
use native.Mathlib.Decide.{dec_lt, ℕ_discrete}
use native.Mathlib.Nat.{add-mul, mod-lt, pow-suc, add-zero, add_assoc}
use lib.Arith.{digits_lt}
use lib.Pow.{pow_pos, shr_lt, pow-add, shr-shr, high, low, mod-mod-pow, split as pow-split, field as pow-field}
use lib.ListN.{length, get_or, length-set, get_or-append}
use lib.Seq.{set-append_left, get_or-set_same, get_or-set_other, set_out}
use Rattle.bits.specs.Bits.{bits_from, bit_at}
use Rattle.bits.proofs.BitLaws.{bits_from-lt, bits_from-same}
use Rattle.bits.specs.Pieces.{Piece, total}
use Rattle.bits.proofs.Holds.{Holds}
use Rattle.bits.specs.Packed.{replaced, set_bit, put, put_all}

pub replaced-is : (x k b : ℕ) → replaced x k b ≡ (x / 2 ^ k / 2 * 2 + b) * 2 ^ k + x % 2 ^ k
unfolding replaced
replaced-is x k b =
    let q = x / 2 ^ k in
    let e : x / 2 ^ k ≡ x / 2 ^ k / 2 * 2 + x / 2 ^ k % 2 = omega arith in
    let f : x / 2 ^ k * 2 ^ k ≡ (x / 2 ^ k / 2 * 2 + x / 2 ^ k % 2) * 2 ^ k = ap (λ (z : ℕ). z * 2 ^ k) e in
    omega (arith, pow-split x k, add-mul (x / 2 ^ k / 2 * 2) (x / 2 ^ k % 2) (2 ^ k), add-mul (x / 2 ^ k / 2 * 2) b (2 ^ k))

replaced-high : (x k b : ℕ) → replaced x k b / 2 ^ k ≡ x / 2 ^ k / 2 * 2 + b
replaced-high x k b = rw (replaced-is x k b) (high (x / 2 ^ k / 2 * 2 + b) k (mod-lt x (pow_pos k)))

replaced-low : (x k b : ℕ) → replaced x k b % 2 ^ k ≡ x % 2 ^ k
replaced-low x k b = rw (replaced-is x k b) (low (x / 2 ^ k / 2 * 2 + b) k (mod-lt x (pow_pos k)))

pub replaced-same : (x k b : ℕ) → b < 2 → replaced x k b / 2 ^ k % 2 ≡ b
replaced-same x k b h = rw (replaced-high x k b) (omega arith)

-- a low digit is one of the low digits
low_digit : (n k j : ℕ) → j < k → n / 2 ^ j % 2 ≡ n % 2 ^ k / 2 ^ j % 2
low_digit n k j h =
    let e : k ≡ (k - j) + j = omega arith in
    let f : k - j ≡ (k - j - 1) + 1 = omega arith in
    sym (ap (λ (z : ℕ). n % 2 ^ z / 2 ^ j % 2) e
    ∙ ap (λ (z : ℕ). z % 2) (pow-field n (k - j) j)
    ∙ ap (λ (z : ℕ). n / 2 ^ j % 2 ^ z % 2) f
    ∙ mod-mod-pow (n / 2 ^ j) (k - j - 1) 1)

pub replaced_other : (x k b j : ℕ) → b < 2 → j ≢ k → replaced x k b / 2 ^ j % 2 ≡ x / 2 ^ j % 2
replaced_other x k b j h n =
    elim (dec_lt j k) [
      | yes l ↦ low_digit (replaced x k b) k j l ∙ ap (λ (z : ℕ). z / 2 ^ j % 2) (replaced-low x k b) ∙ sym (low_digit x k j l)
      | no l ↦
          let e : j ≡ (k + 1) + (j - k - 1) = omega arith in
          let u : replaced x k b / 2 ^ (k + 1) ≡ x / 2 ^ (k + 1) =
          sym (shr-shr (replaced x k b) k 1) ∙ ap (λ (z : ℕ). z / 2 ^ 1) (replaced-high x k b)
          ∙ (let q : (x / 2 ^ k / 2 * 2 + b) / 2 ≡ x / 2 ^ k / 2 = omega arith in q) ∙ shr-shr x k 1 in
          rw (e, ← shr-shr (replaced x k b) (k + 1) (j - k - 1), ← shr-shr x (k + 1) (j - k - 1), u)
    ]

pub set_bit-same : (s : List ℕ) (i b : ℕ) → i < 8 * length s → b < 2 → bit_at (set_bit s i b) i ≡ b
unfolding bit_at
set_bit-same s i b h l =
    rw (get_or-set_same s (i / 8) (replaced (get_or s (i / 8) 0) (7 - i % 8) b) 0 (omega arith))
    (replaced-same (get_or s (i / 8) 0) (7 - i % 8) b l)

pub set_bit_other : (s : List ℕ) (i b j : ℕ) → b < 2 → j ≢ i → bit_at (set_bit s i b) j ≡ bit_at s j
unfolding bit_at
set_bit_other s i b j l n =
    elim (ℕ_discrete (j / 8) (i / 8)) [
      | yes e ↦ elim (dec_lt (i / 8) (length s)) [
        | yes m ↦
            let d : 7 - j % 8 ≢ 7 - i % 8 = λ q. n (omega arith) in
            rw (e, get_or-set_same s (i / 8) (replaced (get_or s (i / 8) 0) (7 - i % 8) b) 0 m)
            (replaced_other (get_or s (i / 8) 0) (7 - i % 8) b (7 - j % 8) l d)
        | no m ↦ rw (set_out s (i / 8) (replaced (get_or s (i / 8) 0) (7 - i % 8) b) (omega arith))
      ]
      | no d ↦ rw (get_or-set_other s (i / 8) (j / 8) (replaced (get_or s (i / 8) 0) (7 - i % 8) b) 0 d)
    ]

pub put-length : (s : List ℕ) (at v n : ℕ) → length (put s at v n) ≡ length s
unfolding put
put-length s at v zero = refl
put-length s at v (suc n) =
    length-set (put s at (v / 2) n) ((at + n) / 8) (replaced (get_or (put s at (v / 2) n) ((at + n) / 8) 0) (7 - (at + n) % 8) (v % 2))
    ∙ put-length s at (v / 2) n

pub put_other : (s : List ℕ) (at v n j : ℕ) → (j < at) ⊎ (at + n ≤ j) → bit_at (put s at v n) j ≡ bit_at s j
unfolding put
put_other s at v zero j o = refl
put_other s at v (suc n) j o =
    set_bit_other (put s at (v / 2) n) (at + n) (v % 2) j (omega arith) (elim o [ inl h ↦ λ q. omega arith | inr h ↦ λ q. omega arith ])
    ∙ put_other s at (v / 2) n j (elim o [ inl h ↦ inl h | inr h ↦ inr (omega arith) ])

-- what is put is read
pub put_same : (s : List ℕ) (at v n : ℕ) → at + n ≤ 8 * length s → v < 2 ^ n → bits_from (put s at v n) at n ≡ v
unfolding put bits_from
put_same s at v zero h l = omega arith
put_same s at v (suc n) h l =
    let t = put s at (v / 2) n in
    let g : v < 2 ^ n * 2 = rw pow-suc at l in
    let r : bits_from (put s at (v / 2) n) at n ≡ v / 2 = put_same s at (v / 2) n (omega arith) (omega arith) in
    let e : bits_from (set_bit (put s at (v / 2) n) (at + n) (v % 2)) at n ≡ bits_from (put s at (v / 2) n) at n =
    bits_from-same _ _ at n (at + n) (omega arith)
    (λ i a b. set_bit_other (put s at (v / 2) n) (at + n) (v % 2) i (omega arith) (λ q. omega arith)) in
    let b : bit_at (set_bit (put s at (v / 2) n) (at + n) (v % 2)) (at + n) ≡ v % 2 =
    set_bit-same (put s at (v / 2) n) (at + n) (v % 2) (omega (arith, put-length s at (v / 2) n)) (omega arith) in
    rw (e, b, r) (omega arith)

pub put-all-length : (s : List ℕ) (at : ℕ) (ps : List Piece) → length (put_all s at ps) ≡ length s
unfolding put_all
put-all-length s at [] = refl
put-all-length s at (p ∷ ps) = put-all-length (put s at p.value p.size) (at + p.size) ps ∙ put-length s at p.value p.size

pub put-all_other : (s : List ℕ) (at : ℕ) (ps : List Piece) (j : ℕ) → (j < at) ⊎ (at + total ps ≤ j) →
    bit_at (put_all s at ps) j ≡ bit_at s j
unfolding put_all
put-all_other s at [] j o = refl
put-all_other s at (p ∷ ps) j o =
    put-all_other (put s at p.value p.size) (at + p.size) ps j (elim o [ inl h ↦ inl (omega arith) | inr h ↦ inr (omega arith) ])
    ∙ put_other s at p.value p.size j (elim o [ inl h ↦ inl h | inr h ↦ inr (omega arith) ])

-- each piece is a number of its size
abbrev pub Sized : List Piece → Type 0
Sized [] = Unit
Sized (p ∷ ps) = (p.value < 2 ^ p.size) × Sized ps

pub holds-sized : (s : List ℕ) (at : ℕ) (ps : List Piece) → Holds s at ps → Sized ps
holds-sized s at [] h = tt
holds-sized s at (p ∷ ps) h =
    (subst (λ (v : ℕ). v < 2 ^ p.size) h.0 (bits_from-lt s at p.size), holds-sized s (at + p.size) ps h.1)

pub put-all-holds : (s : List ℕ) (at : ℕ) (ps : List Piece) → Sized ps → at + total ps ≤ 8 * length s → Holds (put_all s at ps) at ps
unfolding put_all
put-all-holds s at [] z h = tt
put-all-holds s at (p ∷ ps) z h =
    let t = put s at p.value p.size in (
      bits_from-same _ _ at p.size (at + p.size) (omega arith)
          (λ i a b. put-all_other (put s at p.value p.size) (at + p.size) ps i (inl b))
          ∙ put_same s at p.value p.size (omega arith) z.0,
      put-all-holds (put s at p.value p.size) (at + p.size) ps z.1 (omega (arith, put-length s at p.value p.size)),
    )

-- a byte stays a byte
pub replaced-lt : (x k b : ℕ) → x < 256 → k < 8 → b < 2 → replaced x k b < 256
replaced-lt x k b h l g =
    let e : 8 ≡ (8 - k) + k = omega arith in
    let f : 8 - k ≡ suc (7 - k) = omega arith in
    let q : x / 2 ^ k < 2 ^ (8 - k) = shr_lt (8 - k) k (subst (λ (z : ℕ). x < 2 ^ z) e h) in
    let q' : x / 2 ^ k < 2 ^ (7 - k) * 2 = rw pow-suc at (subst (λ (z : ℕ). x / 2 ^ k < 2 ^ z) f q) in
    let u : x / 2 ^ k / 2 * 2 + b < 2 ^ (7 - k) * 2 = omega arith in
    let v : 2 ^ (7 - k) * 2 ≡ 2 ^ (8 - k) = sym (ap (λ (z : ℕ). 2 ^ z) f ∙ pow-suc 2 (7 - k)) in
    let d : (x / 2 ^ k / 2 * 2 + b) * 2 ^ k + x % 2 ^ k < 2 ^ (7 - k) * 2 * 2 ^ k = digits_lt u (mod-lt x (pow_pos k)) in
    let w : 2 ^ (7 - k) * 2 * 2 ^ k ≡ 256 = ap (λ (z : ℕ). z * 2 ^ k) v ∙ sym (pow-add 2 (8 - k) k) ∙ ap (λ (z : ℕ). 2 ^ z) (sym e) in
    omega (arith, replaced-is x k b)

-- more bytes behind are as they were
pub set_bit-append : (s t : List ℕ) (i b : ℕ) → i < 8 * length s → set_bit (s ++ t) i b ≡ set_bit s i b ++ t
set_bit-append s t i b h =
    rw (get_or-append s t 0 (i / 8) (omega arith))
    (set-append_left s t (i / 8) (replaced (get_or s (i / 8) 0) (7 - i % 8) b) (omega arith))

pub put-append : (s t : List ℕ) (at v n : ℕ) → at + n ≤ 8 * length s → put (s ++ t) at v n ≡ put s at v n ++ t
unfolding put
put-append s t at v zero h = refl
put-append s t at v (suc n) h =
    rw (put-append s t at (v / 2) n (omega arith))
    (set_bit-append (put s at (v / 2) n) t (at + n) (v % 2) (omega (arith, put-length s at (v / 2) n)))

pub put-all-append : (s t : List ℕ) (at : ℕ) (ps : List Piece) → at + total ps ≤ 8 * length s →
    put_all (s ++ t) at ps ≡ put_all s at ps ++ t
unfolding put_all
put-all-append s t at [] h = refl
put-all-append s t at (p ∷ ps) h =
    rw (put-append s t at p.value p.size (omega arith))
    (put-all-append (put s at p.value p.size) t (at + p.size) ps (omega (arith, put-length s at p.value p.size)))

-- one writing after another
pub put-all-more : (s : List ℕ) (at : ℕ) (ps qs : List Piece) → put_all s at (ps ++ qs) ≡ put_all (put_all s at ps) (at + total ps) qs
unfolding put_all
put-all-more s at [] qs = rw add-zero
put-all-more s at (p ∷ ps) qs = rw (← add_assoc) (put-all-more (put s at p.value p.size) (at + p.size) ps qs)

pub bit_append : (s t : List ℕ) (i : ℕ) → i < 8 * length s → bit_at (s ++ t) i ≡ bit_at s i
unfolding bit_at
bit_append s t i h = rw (get_or-append s t 0 (i / 8) (omega arith))
