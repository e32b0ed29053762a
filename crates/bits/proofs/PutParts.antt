-- Bits are put in parts, the upper ones first; and the part that lies in one byte is put by replacing that byte.
-- Assumes nothing.
use Prim.Native.Nat.{ℕ, zero, suc, ◌+◌, ◌-◌, ◌*◌, ◌/◌, ◌%◌, ◌<◌, ◌≤◌, ◌^◌}
use mathlib.Core.Path.{◌≡◌, sym, ◌∙◌, ap, ap₂, subst}
use mathlib.Core.List.{List}
use native.Mathlib.Omega.{arith}
use native.Mathlib.Nat.{mod-lt, pow-suc, add-zero, add-suc, add_assoc, mul_assoc, div-one}
use native.Mathlib.Numerals.{add-one}
use lib.Arith.{digits_lt}
use lib.Pow.{pow_pos, pow-add, pow_mono, shr_lt, shr-shr, high, low, mod-mod-pow, mod-pow-add, split as pow-split}
use lib.ListN.{length, get_or, set}
use lib.Seq.{get_or-set_same, set-get_or, set-set}
use Rattle.bits.specs.Packed.{replaced, put}
use Rattle.bits.specs.InnerReplaced.{replaced_bits}
use Rattle.bits.proofs.PutLaws.{replaced-is}

-- the upper m bits, and then the lower n
put-parts : (s : List ℕ) (at v m n : ℕ) → put s at v (m + n) ≡ put (put s at (v / 2 ^ n) m) (at + m) v n
unfolding put
put-parts s at v m zero = rw (add-zero, div-one)
put-parts s at v m (suc n) =
    let e : v / 2 / 2 ^ n ≡ v / 2 ^ suc n =
    shr-shr v 1 n ∙ ap (λ (z : ℕ). v / 2 ^ z) (let q : 1 + n ≡ suc n = omega arith in q) in
    rw (add-suc, ← add_assoc, put-parts s at (v / 2) m n, e)

high_bits : (x k m v : ℕ) → replaced_bits x k m v / 2 ^ k ≡ x / 2 ^ (k + m) * 2 ^ m + v % 2 ^ m
unfolding replaced_bits
high_bits x k m v = high (x / 2 ^ (k + m) * 2 ^ m + v % 2 ^ m) k (mod-lt x (pow_pos k))

low_bits : (x k m v : ℕ) → replaced_bits x k m v % 2 ^ k ≡ x % 2 ^ k
unfolding replaced_bits
low_bits x k m v = low (x / 2 ^ (k + m) * 2 ^ m + v % 2 ^ m) k (mod-lt x (pow_pos k))

none-replaced : (x k v : ℕ) → replaced_bits x k 0 v ≡ x
unfolding replaced_bits
none-replaced x k v =
    let e : x / 2 ^ k * 2 ^ 0 + v % 2 ^ 0 ≡ x / 2 ^ k = omega arith in
    rw (add-zero, e) (pow-split x k)

-- the low digits of the low digits
lower_digits : (x k : ℕ) → x % 2 ^ suc k % 2 ^ k ≡ x % 2 ^ k
lower_digits x k = ap (λ (z : ℕ). x % 2 ^ z % 2 ^ k) (let q : suc k ≡ 1 + k = omega arith in q) ∙ mod-mod-pow x 1 k

-- one bit more, below those that are replaced
one-replaced-more : (x k m v : ℕ) → replaced (replaced_bits x (suc k) m (v / 2)) k (v % 2) ≡ replaced_bits x k (suc m) v
unfolding replaced_bits
one-replaced-more x k m v =
    let y = replaced_bits x (suc k) m (v / 2) in
    let same : suc k + m ≡ k + suc m = omega arith in
    let above : y / 2 ^ k / 2 ≡ x / 2 ^ (k + suc m) * 2 ^ m + v / 2 % 2 ^ m =
    shr-shr y k 1 ∙ ap (λ (z : ℕ). y / 2 ^ z) (add-one k) ∙ high_bits x (suc k) m (v / 2)
    ∙ ap (λ (z : ℕ). x / 2 ^ z * 2 ^ m + v / 2 % 2 ^ m) same in
    let below : y % 2 ^ k ≡ x % 2 ^ k =
    sym (lower_digits y k) ∙ ap (λ (z : ℕ). z % 2 ^ k) (low_bits x (suc k) m (v / 2)) ∙ lower_digits x k in
    let digits : v % 2 ^ suc m ≡ v / 2 % 2 ^ m * 2 + v % 2 =
    ap (λ (z : ℕ). v % 2 ^ z) (sym (add-one m)) ∙ mod-pow-add v m 1 in
    let both : (x / 2 ^ (k + suc m) * 2 ^ m + v / 2 % 2 ^ m) * 2 + v % 2 ≡ x / 2 ^ (k + suc m) * 2 ^ suc m + v % 2 ^ suc m =
    rw (digits, pow-suc, ← mul_assoc) (omega arith) in
    replaced-is y k (v % 2)
    ∙ ap₂ (λ (a b : ℕ). (a * 2 + v % 2) * 2 ^ k + b) above below
    ∙ ap (λ (z : ℕ). z * 2 ^ k + x % 2 ^ k) both

-- bits that lie in one byte
put_in_byte : (s : List ℕ) (at v m : ℕ) → at % 8 + m ≤ 8 → at / 8 < length s
    → put s at v m ≡ set s (at / 8) (replaced_bits (get_or s (at / 8) 0) (8 - (at % 8 + m)) m v)
unfolding put
put_in_byte s at v zero h l = rw (none-replaced (get_or s (at / 8) 0) (8 - (at % 8 + 0)) v) (sym (set-get_or s (at / 8) 0))
put_in_byte s at v (suc m) h l =
    let x = get_or s (at / 8) 0 in
    let y = replaced_bits x (8 - (at % 8 + m)) m (v / 2) in
    let before : put s at (v / 2) m ≡ set s (at / 8) y = put_in_byte s at (v / 2) m (omega arith) l in
    let same : (at + m) / 8 ≡ at / 8 = omega arith in
    let weight : 7 - (at + m) % 8 ≡ 8 - (at % 8 + suc m) = omega arith in
    let next : 8 - (at % 8 + m) ≡ suc (8 - (at % 8 + suc m)) = omega arith in
    rw (before, same, weight, get_or-set_same s (at / 8) y 0 l, set-set s (at / 8) y, next)
    (ap (set s (at / 8)) (one-replaced-more x (8 - (at % 8 + suc m)) m v))

-- the first m bits, all in one byte, and then the others
pub put-byte-first : (s : List ℕ) (at v n m : ℕ) → m ≤ n → at % 8 + m ≤ 8 → at / 8 < length s
    → put (set s (at / 8) (replaced_bits (get_or s (at / 8) 0) (8 - (at % 8 + m)) m (v / 2 ^ (n - m)))) (at + m) v (n - m) ≡ put s at v n
put-byte-first s at v n m h l g =
    let e : m + (n - m) ≡ n = omega arith in
    ap (λ (t : List ℕ). put t (at + m) v (n - m)) (sym (put_in_byte s at (v / 2 ^ (n - m)) m l g))
    ∙ sym (put-parts s at v m (n - m)) ∙ ap (put s at v) e

-- the digits above the kept low bits of a byte
upper_lt : (x k m v : ℕ) → x < 256 → k + m ≤ 8 → x / 2 ^ (k + m) * 2 ^ m + v % 2 ^ m < 2 ^ (8 - k)
upper_lt x k m v b h =
    let e : 8 ≡ 8 - (k + m) + (k + m) = omega arith in
    let f : 8 - (k + m) + m ≡ 8 - k = omega arith in
    let q : x / 2 ^ (k + m) < 2 ^ (8 - (k + m)) = shr_lt (8 - (k + m)) (k + m) (subst (λ (z : ℕ). x < 2 ^ z) e b) in
    subst (λ (z : ℕ). x / 2 ^ (k + m) * 2 ^ m + v % 2 ^ m < z) (sym (pow-add 2 (8 - (k + m)) m) ∙ ap (λ (z : ℕ). 2 ^ z) f)
    (digits_lt q (mod-lt v (pow_pos m)))

pub upper_byte : (x k m v : ℕ) → x < 256 → k + m ≤ 8 → x / 2 ^ (k + m) * 2 ^ m + v % 2 ^ m < 256
upper_byte x k m v b h = omega (arith, upper_lt x k m v b h, pow_mono {i = 8 - k} {j = 8} (omega arith))

-- a byte stays a byte
pub replaced-bits-lt : (x k m v : ℕ) → x < 256 → k + m ≤ 8 → replaced_bits x k m v < 256
unfolding replaced_bits
replaced-bits-lt x k m v b h =
    let e : 8 - k + k ≡ 8 = omega arith in
    subst (λ (z : ℕ). replaced_bits x k m v < z) (sym (pow-add 2 (8 - k) k) ∙ ap (λ (z : ℕ). 2 ^ z) e)
    (digits_lt (upper_lt x k m v b h) (mod-lt x (pow_pos k)))
