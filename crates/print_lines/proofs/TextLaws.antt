-- Text put after text; and a number's digits.
-- Assumes nothing.
use Prim.Native.Nat.{ℕ, zero, suc, ◌+◌, ◌-◌, ◌*◌, ◌/◌, ◌%◌, ◌<◌, ◌≤◌, ◌^◌, min}
use mathlib.Core.Path.{◌≡◌, refl, sym, ap, ap₂, subst, ◌∙◌}
use mathlib.Core.List.{List, [], ◌∷◌, ◌++◌}
use mathlib.Core.Bool.{Bool, true, false}
use native.Mathlib.Omega.{arith}
use native.Mathlib.Decide.{dec_le}
use native.Mathlib.Nat.{add-zero, zero-add, add-suc, pow-suc}
use native.Mathlib.Numerals.{add-one}
use borrow.Author.Tests.{le-leb, lt-leb, le-ltb, lt-ltb, ne_eqb}
use lib.Dec.{leb, ltb}
use lib.ListN.{length, drop, get_or, set, length-append, length-set}
use lib.Seq.{drop-drop}
use Rattle.bits.specs.Reader.{pick}
use Rattle.io.specs.Digits.{last_digits, IsDigitCount}
use Rattle.bits.specs.Bytes.{over}
use Rattle.bits.proofs.OverLaws.{put-none, put_one, over_then, over-length}
use Rattle.print_lines.specs.InnerText.{Line, line_of, with_byte, with_text, tens, number_text, is_mark, first_text, marked_text, form_text}
use Rattle.print_lines.specs.InnerText.{HoldsLine}

-- a text after another
pub text_after : (l : Line) (xs ys : List ℕ) → with_text l (xs ++ ys) ≡ with_text (with_text l xs) ys
unfolding with_text
text_after l [] ys = refl
text_after l (x ∷ xs) ys = text_after (with_byte l x) xs ys

-- one byte
pub one_byte : (l : Line) (b : ℕ) → with_text l (b ∷ []) ≡ with_byte l b
unfolding with_text
one_byte l b = refl

-- the byte at a place, and what is left after it
text_from : (l : Line) (xs : List ℕ) (i : ℕ) → i < length xs
    → with_text l (drop i xs) ≡ with_text (with_byte l (get_or xs i 0)) (drop (suc i) xs)
unfolding with_text
text_from l [] i h = absurd (omega arith)
text_from l (x ∷ xs) zero h = refl
text_from l (x ∷ xs) (suc i) h = text_from l xs i (omega arith)

pub text_next : (l : Line) (xs : List ℕ) (i : ℕ) → i < length xs
    → with_text l (drop i xs) ≡ with_text (with_byte l (get_or xs i 0)) (drop (i + 1) xs)
text_next l xs i h = text_from l xs i h ∙ ap (λ (k : ℕ). with_text (with_byte l (get_or xs i 0)) (drop k xs)) (sym (add-one i))

-- powers of ten rise
ten_more : (i j : ℕ) → 10 ^ i ≤ 10 ^ (i + j)
ten_more i zero = rw add-zero (omega arith)
ten_more i (suc j) = let r = ten_more i j in rw (add-suc, pow-suc) (omega arith)

ten_rises : (i j : ℕ) → i ≤ j → 10 ^ i ≤ 10 ^ j
ten_rises i j h = let e : i + (j - i) ≡ j = omega arith in rw e at (ten_more i (j - i))

-- how many powers of ten a number of m + 1 digits has reached
tens_are : (n m j : ℕ) → (0 < m → 10 ^ m ≤ n) → n < 10 ^ suc m → tens j n ≡ min j m
tens_are n m zero f h = omega arith
tens_are n m (suc j) f h =
    elim (dec_le (suc j) m) [
      | yes d ↦
          let r = ten_rises (suc j) m d in
          let q = f (omega arith) in
          rw (le-leb (10 ^ suc j) n (omega arith), tens_are n m j f h) (omega arith)
      | no d ↦
          let r = ten_rises (suc m) (suc j) (omega arith) in
          rw (lt-leb (10 ^ suc j) n (omega arith), tens_are n m j f h) (omega arith)
    ]

-- the fewest digits of a number of at most twenty
pub fewest : (n k : ℕ) → IsDigitCount 10 1 n k → k ≤ 20 → tens 19 n + 1 ≡ k
fewest n zero f h = absurd (omega (arith, f.0))
fewest n (suc m) f h =
    let e : suc m - 1 ≡ m = omega arith in
    let t = tens_are n m 19 (λ p. rw e at (f.2 (omega arith))) f.1 in
    omega (arith, t)

-- a number that is no letter has at most twenty
pub few-digits : (n k : ℕ) → IsDigitCount 10 1 n k → n < 18446744073709551360 → k ≤ 20
few-digits n zero f h = omega arith
few-digits n (suc m) f h =
    elim (dec_le m 19) [
      | yes d ↦ omega arith
      | no d ↦
          let e : suc m - 1 ≡ m = omega arith in
          let r = ten_rises 20 m (omega arith) in
          let q : 10 ^ m ≤ n = rw e at (f.2 (omega arith)) in
          absurd (omega arith)
    ]

-- the number at a place of the marked ones
pub first-there : (ns : List ℕ) (i : ℕ) → i < length ns → first_text (drop i ns) ≡ number_text (get_or ns i 0)
first-there [] i h = absurd (omega arith)
first-there (n ∷ ns) zero h = refl
first-there (n ∷ ns) (suc i) h = first-there ns i (omega arith)

-- a byte more of a form, from its i-th on: a mark takes a number, any other byte none
form_from : (form : List ℕ) (ns : List ℕ) (i : ℕ) → i < length form
    → form_text (drop i form) ns
    ≡ marked_text (get_or form i 0) ns ++ form_text (drop (suc i) form) (pick (is_mark (get_or form i 0)) (drop 1 ns) ns)
unfolding form_text
form_from [] ns i h = absurd (omega arith)
form_from (b ∷ bs) ns zero h = refl
form_from (b ∷ bs) ns (suc i) h = form_from bs ns i (omega arith)

form_next : (l : Line) (form ns rest : List ℕ) (i : ℕ) → i < length form → pick (is_mark (get_or form i 0)) (drop 1 ns) ns ≡ rest
    → with_text l (form_text (drop i form) ns)
    ≡ with_text (with_text l (marked_text (get_or form i 0) ns)) (form_text (drop (i + 1) form) rest)
form_next l form ns rest i h e =
    ap (with_text l) (form_from form ns i h)
    ∙ text_after l (marked_text (get_or form i 0) ns) (form_text (drop (suc i) form) (pick (is_mark (get_or form i 0)) (drop 1 ns) ns))
    ∙ ap₂ (λ (k : ℕ) (xs : List ℕ). with_text (with_text l (marked_text (get_or form i 0) ns)) (form_text (drop k form) xs))
    (sym (add-one i)) e

module _ (l : Line) (form ns : List ℕ) (i place : ℕ) (h : i < length form) where
  pub form-mark : get_or form i 0 ≡ 35 → with_text l (form_text (drop i form) (drop place ns))
      ≡ with_text (with_text l (marked_text (get_or form i 0) (drop place ns))) (form_text (drop (i + 1) form) (drop (place + 1) ns))
  form-mark e = form_next l form (drop place ns) (drop (place + 1) ns) i h (rw e (drop-drop 1 place ns))

  pub form-byte : (get_or form i 0 ≡ 35 → ⊥) → with_text l (form_text (drop i form) (drop place ns))
      ≡ with_text (with_text l (marked_text (get_or form i 0) (drop place ns))) (form_text (drop (i + 1) form) (drop place ns))
  form-byte f = form_next l form (drop place ns) (drop place ns) i h (rw (ne_eqb (get_or form i 0) 35 f))

-- where a text fits, it stands in the line as it is, and the place is after it
pub text_fits : (bytes : List ℕ) (at : ℕ) (t : List ℕ) → at + length t ≤ length bytes
    → with_text (line_of bytes at) t ≡ line_of (over bytes at t) (at + length t)
unfolding with_text
text_fits bytes at [] h = let e : at ≡ at + 0 = omega arith in ap₂ line_of (put-none bytes at).0 e
text_fits bytes at (b ∷ t) h =
    let one = put_one bytes at b (omega arith) in
    let l : length (set bytes at b) ≡ length bytes = length-set bytes at b in
    let e : at + 1 + length t ≡ at + suc (length t) = omega arith in
    rw (lt-ltb at (length bytes) (omega arith))
    (text_fits (set bytes at b) (at + 1) t (omega arith)
    ∙ ap₂ line_of (ap (λ (s : List ℕ). over s (at + 1) t) one.0 ∙ over_then bytes at (at + 1) (b ∷ []) t refl (omega arith)) e)

-- a text that was put at the front, and is shorter than the line: the line holds it
pub held : (old new : List ℕ) (at : ℕ) (t : List ℕ) → line_of new at ≡ with_text (line_of old 0) t → length t < length old
    → HoldsLine old t at new
held old new at t e h =
    let f = e ∙ text_fits old 0 t (omega arith) in
    let there : at ≡ length t = ap (λ (l : Line). l.at) f ∙ zero-add (length t) in
    let bytes : new ≡ over old 0 t = ap (λ (l : Line). l.bytes) f in
    let long : length new ≡ length old = ap length bytes ∙ over-length old 0 t (omega arith) in
    (there, omega arith, bytes)

-- a text put after another
pub after : (l : Line) {m n : Line} (xs ys : List ℕ) → m ≡ with_text l xs → n ≡ with_text m ys → n ≡ with_text l (xs ++ ys)
after l xs ys e f = f ∙ ap (λ (x : Line). with_text x ys) e ∙ sym (text_after l xs ys)

-- a line of two texts
pub two-held : {mid new : List ℕ} {to at : ℕ} (old : List ℕ) (xs ys : List ℕ) → line_of mid to ≡ with_text (line_of old 0) xs
    → line_of new at ≡ with_text (line_of mid to) ys → length xs + length ys < length old
    → HoldsLine old (xs ++ ys) at new
two-held {mid} {new} {to} {at} old xs ys e f h = held old new at (xs ++ ys) (after (line_of old 0) xs ys e f) (rw (length-append xs ys) h)

-- a text takes no more room than its length, and a full line takes none
pub text_most : (l : Line) (t : List ℕ) → (with_text l t).at ≤ l.at + length t
unfolding with_text
text_most l [] = omega arith
text_most l (b ∷ t) = omega (arith, text_most (with_byte l b) t, go (ltb l.at (length l.bytes)))
  where
    go : (r : Bool) → (pick r (line_of (set l.bytes l.at b) (l.at + 1)) l).at ≤ l.at + 1
    go true = omega arith
    go false = omega arith

text_full : (bytes : List ℕ) (at : ℕ) (t : List ℕ) → length bytes ≤ at → with_text (line_of bytes at) t ≡ line_of bytes at
unfolding with_text
text_full bytes at [] h = refl
text_full bytes at (b ∷ t) h = rw (le-ltb at (length bytes) h) (text_full bytes at t h)

room-byte : (bytes : List ℕ) (at b : ℕ) → at < length bytes → with_byte (line_of bytes at) b ≡ line_of (set bytes at b) (at + 1)
room-byte bytes at b h = rw (lt-ltb at (length bytes) h)

-- so a line that has room afterwards holds all of the text
text_room : (bytes : List ℕ) (at : ℕ) (t : List ℕ) → (with_text (line_of bytes at) t).at < length bytes → at + length t < length bytes
unfolding with_text
text_room bytes at [] h = omega arith
text_room bytes at (b ∷ t) h =
    elim (dec_le (length bytes) at) [
      | yes d ↦ let e = ap (λ (l : Line). l.at) (text_full bytes at (b ∷ t) d) in absurd (omega arith)
      | no d ↦
          let l : length (set bytes at b) ≡ length bytes = length-set bytes at b in
          let f = ap (λ (l : Line). (with_text l t).at) (room-byte bytes at b (omega arith)) in
          omega (arith, text_room (set bytes at b) (at + 1) t (subst (λ (k : ℕ). k < length (set bytes at b)) f (rw l h)))
    ]

pub roomy : (old new : List ℕ) (at : ℕ) (t : List ℕ) → line_of new at ≡ with_text (line_of old 0) t → at < length old
    → HoldsLine old t at new
roomy old new at t e h =
    let f = ap (λ (l : Line). l.at) e in
    held old new at t e (omega (arith, text_room old 0 t (rw f at h)))

-- a number takes at most twenty bytes, so a form at most twenty for each of its own
pub digits_long : (b k n : ℕ) → length (last_digits b k n) ≡ k
digits_long b zero n = refl
digits_long b (suc k) n = rw (length-append (last_digits b k (n / b)) _, digits_long b k (n / b)) (omega arith)

tens-most : (k n : ℕ) → tens k n ≤ k
tens-most zero n = omega arith
tens-most (suc k) n = go (leb (10 ^ suc k) n) (tens-most k n)
  where
    go : (b : Bool) → tens k n ≤ k → tens k n + pick b 1 0 ≤ suc k
    go true r = omega arith
    go false r = omega arith

pub number_short : (n : ℕ) → length (number_text n) ≤ 20
unfolding number_text
number_short n = go (leb 18446744073709551360 n)
  where
    go : (b : Bool) → length (pick b (n % 256 ∷ []) (last_digits 10 (tens 19 n + 1) n)) ≤ 20
    go true = omega arith
    go false = omega (arith, digits_long 10 (tens 19 n + 1) n, tens-most 19 n)

-- a number below 10^m takes at most m, where m is not 0
tens-few : (j m n : ℕ) → n < 10 ^ suc m → tens j n ≤ m
tens-few zero m n h = omega arith
tens-few (suc j) m n h =
    elim (dec_le (suc j) m) [
      | yes d ↦ omega (arith, tens-most (suc j) n)
      | no d ↦ let r = ten_rises (suc m) (suc j) (omega arith) in rw (lt-leb (10 ^ suc j) n (omega arith)) (omega (arith, tens-few j m n h))
    ]

pub number-few : (m n : ℕ) → n < 10 ^ suc m → length (number_text n) ≤ suc m
unfolding number_text
number-few m n h = go (leb 18446744073709551360 n)
  where
    go : (b : Bool) → length (pick b (n % 256 ∷ []) (last_digits 10 (tens 19 n + 1) n)) ≤ suc m
    go true = omega arith
    go false = omega (arith, digits_long 10 (tens 19 n + 1) n, tens-few 19 m n h)

marked_short : (b : ℕ) (ns : List ℕ) → length (marked_text b ns) ≤ 20
marked_short b ns = go (is_mark b) ns
  where
    go : (m : Bool) (ns : List ℕ) → length (pick m (first_text ns) (b ∷ [])) ≤ 20
    go true [] = omega arith
    go true (n ∷ ns) = number_short n
    go false ns = omega arith

pub form_short : (form ns : List ℕ) → length (form_text form ns) ≤ 20 * length form
unfolding form_text
form_short [] ns = omega arith
form_short (b ∷ bs) ns =
    rw (length-append (marked_text b ns) (form_text bs (pick (is_mark b) (drop 1 ns) ns)))
    (omega (arith, marked_short b ns, form_short bs (pick (is_mark b) (drop 1 ns) ns)))
