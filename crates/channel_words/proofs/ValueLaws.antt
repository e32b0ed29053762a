-- The values of a word as the code finds them. Sign bits follow the word one after another, so that all of them are there, or the first
-- that is not stands at the end; and a window that holds the word and the sign bits holds each at its place.
-- Assumes nothing.
use Prim.Native.Nat.{ℕ, zero, suc, ◌+◌, ◌*◌, ◌-◌, ◌/◌, ◌%◌, ◌<◌, ◌≤◌, ◌^◌}
use mathlib.Core.Path.{◌≡◌, refl, sym, ◌∙◌, ap, ap₂, subst}
use mathlib.Core.Logic.{inl, inr}
use mathlib.Core.Bool.{Bool, true, false}
use mathlib.Core.List.{List, [], ◌∷◌}
use native.Mathlib.Omega.{arith}
use native.Mathlib.Decide.{dec_le, ℕ_discrete}
use native.Mathlib.Nat.{add-zero}
use lib.Dec.{eqb}
use lib.ListN.{set, replicate}
use lib.IntN.{ℤ, pos, neg_ℤ, ◌-ℤ◌}
use borrow.Author.Tests.{eq-eqb, ne_eqb, le-leb, lt-leb}
use Rattle.bits.specs.Bits.{bits_from}
use Rattle.bits.specs.Field.{field}
use Rattle.bits.specs.InnerWindow.{window_of}
use Rattle.bits.specs.Loop.{counted}
use Rattle.bits.specs.Reader.{Reader, got, refused, pick}
use Rattle.bits.proofs.WindowLaws.{window_bit}
use Rattle.channel_words.specs.Books.{Book}
use Rattle.channel_words.specs.Tuple.{digit, signed, value, put}
use Rattle.channel_words.specs.InnerWords.{kind, signs, values_by, put_by, PairBase}

-- 0 has no sign
signed-none : (x : ℕ) → signed 0 x ≡ pos 0
unfolding signed
signed-none x = go (eqb x 1)
  where
    go : (b : Bool) → pick b (neg_ℤ (pos 0)) (pos 0) ≡ pos 0
    go true = refl
    go false = refl

-- a value of 0 is put where a 0 stands
put_anyway : (d j sign : ℕ) (vs : List ℤ) → vs ≡ set vs j (pos 0) → pick (eqb d 0) vs (set vs j (signed d sign)) ≡ set vs j (signed d sign)
put_anyway d j sign vs z =
    elim (ℕ_discrete d 0) [
      | yes e ↦ rw (e, signed-none sign) z
      | no n ↦ rw (ne_eqb _ _ n)
    ]

-- a number has one sign bit at most
pub signs-le : (d : ℕ) → signs d ≤ 1
signs-le d = go (eqb d 0)
  where
    go : (b : Bool) → pick b 0 1 ≤ 1
    go true = omega arith
    go false = omega arith

-- the values of a word are put in the lines
put-got : (word : Reader ℕ) (b : Book) (line : ℕ) (lines vs : List ℤ) (s : List ℕ) (at end next : ℕ)
    → values_by word b s at end ≡ got vs next
    → put_by word b line lines s at end ≡ got (put lines line b.dim vs) next
unfolding put_by
put-got word b line lines vs s at end next e = rw e

-- two lines, and four
abbrev pub two : List ℤ → ℕ → ℤ → ℤ → List ℤ
two lines k a b = set (set lines k a) (k + 1) b

abbrev pub four : List ℤ → ℕ → ℤ → ℤ → ℤ → ℤ → List ℤ
four lines k a b c d = set (set (two lines k a b) (k + 2) c) (k + 3) d

pub put_two : (lines : List ℤ) (k : ℕ) (a b c d : ℤ) → put lines k 2 (a ∷ b ∷ c ∷ d ∷ []) ≡ two lines k a b
unfolding put
put_two lines k a b c d = rw (add-zero k)

put_four : (lines : List ℤ) (k : ℕ) (a b c d : ℤ) → put lines k 4 (a ∷ b ∷ c ∷ d ∷ []) ≡ four lines k a b c d
unfolding put
put_four lines k a b c d = rw (add-zero k)

-- the values of a signed book
module _ (word : Reader ℕ) (line : ℕ) (lines : List ℤ) (s : List ℕ) (at end : ℕ) {entry next : ℕ} (e : word s at end ≡ got entry next) where
  pub signed-two : put_by word (kind 2 9 4) line lines s at end
      ≡ got (two lines line (pos (entry / 9 % 9) -ℤ pos 4) (pos (entry % 9) -ℤ pos 4)) next
  unfolding values_by counted value digit
  signed-two =
      let one : entry / 9 ^ 0 ≡ entry = omega arith in
      put-got word (kind 2 9 4) line lines _ s at end next (rw (e, one))
      ∙ ap (λ (x : List ℤ). got x next) (put_two lines line _ _ (pos 0) (pos 0))

  pub signed-four : put_by word (kind 4 3 1) line lines s at end
      ≡ got (four lines line (pos (entry / 27 % 3) -ℤ pos 1) (pos (entry / 9 % 3) -ℤ pos 1) (pos (entry / 3 % 3) -ℤ pos 1)
      (pos (entry % 3) -ℤ pos 1)) next
  unfolding values_by counted value digit
  signed-four =
      let one : entry / 3 ^ 0 ≡ entry = omega arith in
      put-got word (kind 4 3 1) line lines _ s at end next (rw (e, one)) ∙ ap (λ (x : List ℤ). got x next) (put_four lines line _ _ _ _)

-- the values of an unsigned book
module _ (b : Book) (plain : b.offset ≡ 0) (entry : ℕ) (s : List ℕ) (end : ℕ) where
  -- the sign bits of m values from the j-th on
  abbrev pub signs_from : ℕ → ℕ → ℕ
  signs_from j zero = 0
  signs_from j (suc m) = signs (digit b entry j) + signs_from (j + 1) m

  -- a value whose sign bit is there; one that is 0 is not put
  value-is : (j : ℕ) (vs : List ℤ) (at : ℕ) → signs (digit b entry j) ≤ end - at
      → value b entry j vs s at end
      ≡ got (pick (eqb (digit b entry j) 0) vs (set vs j (signed (digit b entry j) (bits_from s at 1)))) (at + signs (digit b entry j))
  unfolding value field digit
  value-is j vs at h =
      elim (ℕ_discrete (digit b entry j) 0) [
        | yes e ↦ rw (plain, eq-eqb _ _ e, add-zero at)
        | no n ↦
            let g : 1 ≤ end - at = rw (ne_eqb _ _ n) at h in
            rw (plain, ne_eqb _ _ n, le-leb (at + 1) end (omega arith))
      ]

  -- where its place holds 0 it may be put anyway
  value-got : (j : ℕ) (vs : List ℤ) (at : ℕ) → vs ≡ set vs j (pos 0) → signs (digit b entry j) ≤ end - at
      → value b entry j vs s at end ≡ got (set vs j (signed (digit b entry j) (bits_from s at 1))) (at + signs (digit b entry j))
  value-got j vs at z h =
      value-is j vs at h
      ∙ ap (λ (us : List ℤ). got us (at + signs (digit b entry j))) (put_anyway (digit b entry j) j (bits_from s at 1) vs z)

  -- one whose sign bit is not
  value-cut : (j : ℕ) (vs : List ℤ) (at : ℕ) → at ≤ end → end - at < signs (digit b entry j) → value b entry j vs s at end ≡ refused 10 end
  unfolding value field digit
  value-cut j vs at a h =
      elim (ℕ_discrete (digit b entry j) 0) [
        | yes e ↦ let g : end - at < 0 = rw (eq-eqb _ _ e) at h in absurd (omega arith)
        | no n ↦
            let g : end - at < 1 = rw (ne_eqb _ _ n) at h in
            let q : at ≡ end = omega arith in
            rw (plain, ne_eqb _ _ n, lt-leb (at + 1) end (omega arith), q)
      ]

  -- where they are not all there, the first that is not stands at the end
  counted-cut : (m j : ℕ) (vs : List ℤ) (at : ℕ) → at ≤ end → end - at < signs_from j m
      → counted j m (value b entry) vs s at end ≡ refused 10 end
  unfolding counted
  counted-cut zero j vs at a h = absurd (omega arith)
  counted-cut (suc m) j vs at a h =
      elim (dec_le (signs (digit b entry j)) (end - at)) [
        | yes d ↦
            rw (value-is j vs at d) (counted-cut m (j + 1) _ (at + signs (digit b entry j)) (omega arith) (omega arith))
        | no d ↦ rw (value-cut j vs at a (omega (arith, d)))
      ]

-- a sign bit in the window is the one at its place
sign_same : (d : ℕ) (s : List ℕ) (at have i : ℕ) → i < 24 → i + signs d ≤ have
    → signed d (bits_from s (at + i) 1) ≡ signed d (window_of s at have / 2 ^ (23 - i) % 2)
sign_same d s at have i h g =
    elim (ℕ_discrete d 0) [
      | yes e ↦ rw e (signed-none _ ∙ sym (signed-none _))
      | no n ↦
          let k : i + 1 ≤ have = rw (ne_eqb _ _ n) at g in
          ap (signed d) (sym (window_bit s at have i h (omega arith)))
    ]

-- the i-th bit of the window at a place
abbrev pub bit_in : List ℕ → ℕ → ℕ → ℕ → ℕ
bit_in s at end i = window_of s at (end - at) / 2 ^ (23 - i) % 2

-- a value that the code makes of a number and a bit of the window
pub sign_found : (d : ℕ) (s : List ℕ) (at end : ℕ) {v : ℤ} {bit w i j : ℕ} → v ≡ signed d bit → bit ≡ w / 2 ^ (23 - i) % 2
    → w ≡ window_of s at (end - at) → i ≡ j → v ≡ signed d (bit_in s at end j)
sign_found d s at end p q r e = p ∙ ap (signed d) (q ∙ ap₂ (λ (x y : ℕ). x / 2 ^ (23 - y) % 2) r e)

-- lines of the same values are the same
pub four_as : (lines : List ℤ) (k : ℕ) {m n : ℕ} {a b c d a' b' c' d' : ℤ} → a ≡ a' → b ≡ b' → c ≡ c' → d ≡ d' → m ≡ n
    → got (four lines k a b c d) m ≡ got (four lines k a' b' c' d') n
four_as lines k p q r t e = rw (p, q, r, t, e)

module _ (word : Reader ℕ) (s : List ℕ) (at end : ℕ) {entry next : ℕ} (e : word s at end ≡ got entry next)
    (low : at ≤ next) (high : next ≤ end) (near : next ≤ at + 20) where
  -- the values of an unsigned pair, whose sign bits are there or not
  pub unsigned-two : (base : ℕ) → let a = digit (kind 2 base 0) entry 0 in let b = digit (kind 2 base 0) entry 1 in
      next - at + signs a + signs b ≤ end - at
      → values_by word (kind 2 base 0) s at end
      ≡ got (signed a (bit_in s at end (next - at)) ∷ signed b (bit_in s at end (next - at + signs a)) ∷ pos 0 ∷ pos 0 ∷ [])
      (at + (next - at + signs a + signs b))
  unfolding values_by counted
  unsigned-two base h =
      let k = kind 2 base 0 in
      let a = digit k entry 0 in
      let b = digit k entry 1 in
      let n₀ = signs-le a in
      let p₁ = next + signs a in
      let v₀ = signed a (bits_from s next 1) in
      let e₀ = value-got k refl entry s end 0 (pos 0 ∷ pos 0 ∷ pos 0 ∷ pos 0 ∷ []) next refl (omega arith) in
      let e₁ = value-got k refl entry s end 1 (v₀ ∷ pos 0 ∷ pos 0 ∷ pos 0 ∷ []) p₁ refl (omega arith) in
      let x₀ : next ≡ at + (next - at) = omega arith in
      let x₁ : next + signs a ≡ at + (next - at + signs a) = omega arith in
      let x₂ : next + signs a + signs b ≡ at + (next - at + signs a + signs b) = omega arith in
      let s₀ = ap (λ (z : ℕ). signed a (bits_from s z 1)) x₀ ∙ sign_same a s at (end - at) (next - at) (omega arith) (omega arith) in
      let s₁ = ap (λ (z : ℕ). signed b (bits_from s z 1)) x₁ ∙ sign_same b s at (end - at) (next - at + signs a) (omega arith)
      (omega arith) in
      rw (e, e₀, e₁, s₀, s₁, x₂)

  pub unsigned-two-cut : (base : ℕ) → end - at < next - at + signs (digit (kind 2 base 0) entry 0) + signs (digit (kind 2 base 0) entry 1)
      → values_by word (kind 2 base 0) s at end ≡ refused 10 end
  unfolding values_by
  unsigned-two-cut base h =
      rw (e, counted-cut (kind 2 base 0) refl entry s end 2 0 (replicate 4 (pos 0)) next high (omega arith))

  -- the same of four values, put in the lines
  pub unsigned-four : (line : ℕ) (lines : List ℤ) → let a = entry / 27 % 3 in let b = entry / 9 % 3 in let c
      = entry / 3 % 3 in let d = entry % 3 in
      next - at + signs a + signs b + signs c + signs d ≤ end - at
      → put_by word (kind 4 3 0) line lines s at end
      ≡ got (four lines line (signed a (bit_in s at end (next - at))) (signed b (bit_in s at end (next - at + signs a)))
      (signed c (bit_in s at end (next - at + signs a + signs b))) (signed d (bit_in s at end (next - at + signs a + signs b + signs c))))
      (at + (next - at + signs a + signs b + signs c + signs d))
  unfolding values_by counted digit
  unsigned-four line lines h =
      let k = kind 4 3 0 in
      let a = entry / 27 % 3 in
      let b = entry / 9 % 3 in
      let c = entry / 3 % 3 in
      let d = entry % 3 in
      let one : entry / 3 ^ 0 ≡ entry = omega arith in
      let n₀ = signs-le a in
      let n₁ = signs-le b in
      let n₂ = signs-le c in
      let p₁ = next + signs a in
      let p₂ = next + signs a + signs b in
      let p₃ = next + signs a + signs b + signs c in
      let v₀ = signed a (bits_from s next 1) in
      let v₁ = signed b (bits_from s p₁ 1) in
      let v₂ = signed c (bits_from s p₂ 1) in
      let v₃ = signed d (bits_from s p₃ 1) in
      let z = pos 0 in
      let e₀ = value-got k refl entry s end 0 (z ∷ z ∷ z ∷ z ∷ []) next refl (omega arith) in
      let e₁ = value-got k refl entry s end 1 (v₀ ∷ z ∷ z ∷ z ∷ []) p₁ refl (omega arith) in
      let e₂ = value-got k refl entry s end 2 (v₀ ∷ v₁ ∷ z ∷ z ∷ []) p₂ refl (omega arith) in
      let e₃ = value-got k refl entry s end 3 (v₀ ∷ v₁ ∷ v₂ ∷ z ∷ []) p₃ refl (rw one (omega arith)) in
      let x₀ : next ≡ at + (next - at) = omega arith in
      let x₁ : p₁ ≡ at + (next - at + signs a) = omega arith in
      let x₂ : p₂ ≡ at + (next - at + signs a + signs b) = omega arith in
      let x₃ : p₃ ≡ at + (next - at + signs a + signs b + signs c) = omega arith in
      let x₄ : p₃ + signs d ≡ at + (next - at + signs a + signs b + signs c + signs d) = omega arith in
      let s₀ = ap (λ (y : ℕ). signed a (bits_from s y 1)) x₀ ∙ sign_same a s at (end - at) (next - at) (omega arith) (omega arith) in
      let s₁ = ap (λ (y : ℕ). signed b (bits_from s y 1)) x₁ ∙ sign_same b s at (end - at) (next - at + signs a) (omega arith)
      (omega arith) in
      let s₂ = ap (λ (y : ℕ). signed c (bits_from s y 1)) x₂
      ∙ sign_same c s at (end - at) (next - at + signs a + signs b) (omega arith) (omega arith) in
      let s₃ = ap (λ (y : ℕ). signed d (bits_from s y 1)) x₃
      ∙ sign_same d s at (end - at) (next - at + signs a + signs b + signs c) (omega arith) (omega arith) in
      put-got word k line lines (v₀ ∷ v₁ ∷ v₂ ∷ v₃ ∷ []) s at end (p₃ + signs d) (rw (e, e₀, e₁, e₂, e₃, one))
      ∙ ap₂ got (put_four lines line _ _ _ _ ∙ rw (s₀, s₁, s₂, s₃)) x₄

  pub unsigned-four-cut : (line : ℕ) (lines : List ℤ)
      → end - at < next - at + signs (entry / 27 % 3) + signs (entry / 9 % 3) + signs (entry / 3 % 3) + signs (entry % 3)
      → put_by word (kind 4 3 0) line lines s at end ≡ refused 10 end
  unfolding put_by values_by digit
  unsigned-four-cut line lines h =
      let one : entry / 3 ^ 0 ≡ entry = omega arith in
      rw (e, counted-cut (kind 4 3 0) refl entry s end 4 0 (replicate 4 (pos 0)) next high (rw one (omega arith)))

-- values of a pair that the code makes
pub two_as : (c d : ℤ) {m n : ℕ} {a b a' b' : ℤ} → a ≡ a' → b ≡ b' → m ≡ n → got (a ∷ b ∷ c ∷ d ∷ []) m ≡ got (a' ∷ b' ∷ c ∷ d ∷ []) n
two_as c d p q e = rw (p, q, e)

-- the digits of a pair, by one division
abbrev pub Digits : ℕ → ℕ → Type 0
Digits base entry =
    (digit (kind 2 base 0) entry 0 ≡ entry / base)
    × (digit (kind 2 base 0) entry 1 ≡ entry - base * (entry / base))
    × (entry / base ≤ 16)
    × (entry - base * (entry / base) ≤ 16)
    × (base * (entry / base) ≤ entry)

pub pair_digits : (base entry : ℕ) → PairBase base → entry < base * base → Digits base entry
unfolding digit
pair_digits base entry (inl e) h =
    let g : entry < 8 * 8 = rw e at h in
    subst (λ (b : ℕ). Digits b entry) (sym e) (omega arith, omega arith, omega arith, omega arith, omega arith)
pair_digits base entry (inr (inl e)) h =
    let g : entry < 13 * 13 = rw e at h in
    subst (λ (b : ℕ). Digits b entry) (sym e) (omega arith, omega arith, omega arith, omega arith, omega arith)
pair_digits base entry (inr (inr e)) h =
    let g : entry < 17 * 17 = rw e at h in
    subst (λ (b : ℕ). Digits b entry) (sym e) (omega arith, omega arith, omega arith, omega arith, omega arith)
