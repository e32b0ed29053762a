-- Fill bits: one bit more of a number, and how many there are.
-- Assumes nothing.
use Prim.Native.Nat.{ℕ, zero, suc, ◌-◌, ◌/◌, ◌%◌, ◌^◌, ◌<◌, ◌≤◌, min}
use mathlib.Core.Path.{◌≡◌, sym, ap, ◌∙◌}
use mathlib.Core.List.{List, [], ◌∷◌, ◌++◌}
use mathlib.Core.Bool.{Bool, true, false}
use native.Mathlib.Omega.{arith}
use native.Mathlib.Nat.{div-div-eq-div-mul, div-one, pow-zero, pow-succ'}
use lib.Dec.{eqb}
use lib.ListN.{length}
use Rattle.bits.specs.Reader.{pick}
use Rattle.io.specs.Digits.{last_digits, hex_digit_ascii}
use Rattle.print_lines.specs.InnerText.{Line, ascii, with_byte, with_text}
use Rattle.print_lines.proofs.TextLaws.{digits_long}
use Rattle.print_rows.specs.InnerFill.{fill_text}

-- the first of the last k + 1 digits of a number
first-digit : (b k n : ℕ) → last_digits b (suc k) n ≡ hex_digit_ascii (n / b ^ k % b) ∷ last_digits b k n
first-digit b zero n = rw (pow-zero b, div-one n)
first-digit b (suc k) n =
    let rest = last_digits b k (n / b) ++ (hex_digit_ascii (n % b) ∷ []) in
    ap (λ (xs : List ℕ). xs ++ (hex_digit_ascii (n % b) ∷ [])) (first-digit b k (n / b))
    ∙ ap (λ (m : ℕ). hex_digit_ascii (m % b) ∷ rest) (div-div-eq-div-mul n b (b ^ k) ∙ ap (λ (d : ℕ). n / d) (sym (pow-succ' b k)))

bit_next : (l : Line) (value left : ℕ) → 0 < left
    → with_text l (last_digits 2 left value)
    ≡ with_text (with_byte l (hex_digit_ascii (value / 2 ^ (left - 1) % 2))) (last_digits 2 (left - 1) value)
unfolding with_text
bit_next l value zero h = absurd (omega arith)
bit_next l value (suc k) h = let e : suc k - 1 ≡ k = omega arith in rw (e, first-digit 2 k value)

-- a bit was put: what is left after it makes what was left before it
pub bit_turn : (l m : Line) (value left : ℕ) → 0 < left → m ≡ with_byte l (hex_digit_ascii (value / 2 ^ (left - 1) % 2))
    → with_text m (last_digits 2 (left - 1) value) ≡ with_text l (last_digits 2 left value)
bit_turn l m value left h e = ap (λ (x : Line). with_text x (last_digits 2 (left - 1) value)) e ∙ sym (bit_next l value left h)

-- fill bits are at most 32
pub fill-short : (value count : ℕ) → length (fill_text value count) ≤ 32
unfolding fill_text
fill-short value count = go (eqb count 0)
  where
    go : (b : Bool) → length (pick b (ascii "-") (last_digits 2 (min count 32) value)) ≤ 32
    go true = omega arith
    go false = omega (arith, digits_long 2 (min count 32) value)
