-- Texts one after another: one value more of a list, and how many bytes all of them take.
-- Assumes nothing.
use Prim.Native.Nat.{ℕ, suc, ◌+◌, ◌*◌, ◌<◌, ◌≤◌, min}
use mathlib.Core.Path.{◌≡◌, sym, ap, ◌∙◌}
use mathlib.Core.List.{List, [], ◌∷◌, ◌++◌}
use mathlib.Core.Bool.{Bool, true, false}
use native.Mathlib.Omega.{arith}
use native.Mathlib.Decide.{dec_le}
use native.Mathlib.Numerals.{add-one}
use lib.Dec.{eqb}
use lib.IntN.{ℤ, pos, negsuc, nat_abs}
use lib.ListN.{length, take, drop, get_or, length-append, length-take, drop_of_length-le}
use lib.Seq.{drop-cons, take_all}
use Rattle.bits.specs.Reader.{pick}
use Rattle.print_lines.specs.InnerText.{Line, with_text, number_text, form_text, line}
use Rattle.print_lines.proofs.TextLaws.{text_after, number-few, number_short}
use Rattle.print_rows.specs.InnerSigned.{signed_text}
use Rattle.print_rows.specs.InnerEach.{each, next_number, numbers_text, next_index, indices_text, value_text}

module _ {A : Type 0} (text : ℕ → A → List ℕ) where
  each_next : (l : Line) (xs : List A) (i : ℕ) (z : A) → i < length xs
      → with_text l (each text i (drop i xs)) ≡ with_text (with_text l (text i (get_or xs i z))) (each text (i + 1) (drop (i + 1) xs))
  unfolding each
  each_next l xs i z h =
      rw (drop-cons xs i z h) (text_after l (text i (get_or xs i z)) (each text (i + 1) (drop (suc i) xs)))
      ∙ ap (λ (k : ℕ). with_text (with_text l (text i (get_or xs i z))) (each text (i + 1) (drop k xs))) (sym (add-one i))

  -- the i-th value's text was put: what is left after it makes what was left before it
  pub each_turn : (l m : Line) (xs : List A) (i : ℕ) (z : A) → i < length xs → m ≡ with_text l (text i (get_or xs i z))
      → with_text m (each text (i + 1) (drop (i + 1) xs)) ≡ with_text l (each text i (drop i xs))
  each_turn l m xs i z h e =
      ap (λ (x : Line). with_text x (each text (i + 1) (drop (i + 1) xs))) e ∙ sym (each_next l xs i z h)

  -- at the end nothing is left
  pub each_last : (l : Line) (xs : List A) (i : ℕ) → length xs ≤ i → l ≡ with_text l (each text i (drop i xs))
  unfolding each with_text
  each_last l xs i h = rw (drop_of_length-le xs {i = i} h)

  -- where no value takes more than k bytes
  each-short : (k : ℕ) → ((i : ℕ) (x : A) → length (text i x) ≤ k) → (i : ℕ) (xs : List A) → length (each text i xs) ≤ k * length xs
  unfolding each
  each-short k short i [] = omega arith
  each-short k short i (x ∷ xs) =
      rw (length-append (text i x) (each text (i + 1) xs)) (omega (arith, short i x, each-short k short (i + 1) xs))

-- the indices of a list, from the i-th on
abbrev pub indices_from : List ℤ → ℕ → List ℕ
indices_from zs i = each (λ place z. next_index z) i (drop i zs)

-- the values of a list, from the i-th on
abbrev pub values_from : List ℤ → ℕ → List ℕ
values_from zs i = each value_text i (drop i zs)

-- the numbers of a list, from the i-th on
abbrev pub numbers_from : List ℕ → ℕ → List ℕ
numbers_from xs i = each (λ place x. next_number x) i (drop i xs)

-- the first n of a list, which may have fewer
pub first_few : {A : Type 0} (n m : ℕ) (xs : List A) → m ≡ min n (length xs) → take m xs ≡ take n xs
first_few n m xs e =
    elim (dec_le n (length xs)) [
      | yes h ↦ ap (λ (k : ℕ). take k xs) (omega arith)
      | no h ↦ take_all m xs (omega arith) ∙ sym (take_all n xs (omega arith))
    ]

-- a number takes at most 20 bytes, and an index a sign more
next-number-short : (n : ℕ) → length (next_number n) ≤ 21
unfolding next_number
next-number-short n = omega (arith, number_short n)

pub numbers-short : (n : ℕ) (xs : List ℕ) → length (numbers_text (take n xs)) ≤ 21 * length xs
numbers-short n xs =
    omega (arith, each-short (λ place x. next_number x) 21 (λ place x. next-number-short x) 0 (take n xs), length-take n xs)

next-index-short : (z : ℤ) → length (next_index z) ≤ 22
unfolding next_index signed_text
next-index-short (pos n) = omega (arith, number_short n)
next-index-short (negsuc n) = omega (arith, number_short (suc n))

pub indices-short : (zs : List ℤ) → length (indices_text zs) ≤ 22 * length zs
indices-short zs = each-short (λ place z. next_index z) 22 (λ place z. next-index-short z) 0 zs

-- a place below 1,024 has four digits at most, a value of 16 bits a sign and five
signed-few : (z : ℤ) → nat_abs z ≤ 32768 → length (signed_text z) ≤ 6
unfolding signed_text
signed-few (pos n) h = omega (arith, number-few 4 n (omega arith))
signed-few (negsuc n) h = omega (arith, number-few 4 (suc n) (omega arith))

pub value-few : (place : ℕ) (z : ℤ) → place < 1024 → nat_abs z ≤ 32768 → length (value_text place z) ≤ 12
unfolding value_text form_text
value-few place z h k = go (eqb (nat_abs z) 0)
  where
    go : (b : Bool) → length (pick b [] (line " #:" (place ∷ []) ++ signed_text z)) ≤ 12
    go true = omega arith
    go false =
        rw (length-append (number_text place ++ (58 ∷ [])) (signed_text z), length-append (number_text place) (58 ∷ []))
        (omega (arith, number-few 3 place (omega arith), signed-few z k))
