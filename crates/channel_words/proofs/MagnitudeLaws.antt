-- The escapes of unsigned pairs, as the code reads them: from the numbers and their sign bits, not from the values that these are.
-- Assumes nothing.
use Prim.Native.Nat.{ℕ, ◌-◌, ◌/◌, ◌≤◌, ◌^◌}
use mathlib.Core.Path.{◌≡◌, refl, sym, ◌∙◌, ap}
use mathlib.Core.Bool.{Bool, true, false}
use mathlib.Core.List.{List, [], ◌∷◌}
use native.Mathlib.Omega.{arith}
use native.Mathlib.Decide.{ℕ_discrete}
use native.Mathlib.Nat.{mod-lt}
use lib.Dec.{eqb}
use lib.ListN.{get_or, set, replicate}
use lib.IntN.{ℤ, pos, neg_ℤ, nat_abs}
use lib.Signed.{lt_z}
use borrow.Author.Tests.{eq-eqb, ne_eqb}
use Rattle.bits.specs.Reader.{Answer, Reader, got, refused, give, pick, after, ◌>>=◌}
use Rattle.bits.specs.Field.{field}
use Rattle.bits.specs.Loop.{counted}
use Rattle.bits.proofs.Signed.{abs_neg}
use Rattle.words.specs.Escape.{escape}
use Rattle.words.proofs.EscapeLaws.{escape-spelt}
use Rattle.channel_words.specs.Books.{Book}
use Rattle.channel_words.specs.Tuple.{digit, signed, value, escape_at, escaped, put}
use Rattle.channel_words.specs.InnerWords.{kind, values_by, put_by, magnitude_of, put_escaped}
use Rattle.channel_words.proofs.ValueLaws.{two, put_two}

-- an escape's magnitude is 8191 at most, and so is a number that is none
pub magnitude_bound : (d : ℕ) → d ≤ 16 → (s : List ℕ) (at end m next : ℕ) → magnitude_of d s at end ≡ got m next → m ≤ 8191
unfolding magnitude_of
magnitude_bound d h s at end m next e = go (eqb d 16) e
  where
    go : (b : Bool) → pick b escape (give d) s at end ≡ got m next → m ≤ 8191
    go true e = let w = escape-spelt.law s at end next m e in omega (arith, w.4)
    go false e = let q : d ≡ m = cc in omega arith

-- the magnitude and the sign of a value
signed_abs : (d x : ℕ) → nat_abs (signed d x) ≡ d
unfolding signed
signed_abs d x = go (eqb x 1)
  where
    go : (b : Bool) → nat_abs (pick b (neg_ℤ (pos d)) (pos d)) ≡ d
    go true = abs_neg (pos d)
    go false = refl

signed_sign : (x m : ℕ) → signed m (pick (lt_z (signed 16 x) (pos 0)) 1 0) ≡ signed m x
unfolding signed
signed_sign x m = go (eqb x 1)
  where
    go : (b : Bool) → pick (eqb (pick (lt_z (pick b (neg_ℤ (pos 16)) (pos 16)) (pos 0)) 1 0) 1) (neg_ℤ (pos m)) (pos m)
        ≡ pick b (neg_ℤ (pos m)) (pos m)
    go true = refl
    go false = refl

-- the escape of a value that a number and its sign bit are
escaped-is : (d x j : ℕ) (vs : List ℤ) (s : List ℕ) (at end : ℕ) → get_or vs j (pos 0) ≡ signed d x → vs ≡ set vs j (signed d x)
    → escaped j vs s at end ≡ after (magnitude_of d s at end) (λ m. give (set vs j (signed m x))) s end
unfolding escaped escape_at magnitude_of
escaped-is d x j vs s at end g z =
    elim (ℕ_discrete d 16) [
      | yes e ↦
          let v : get_or vs j (pos 0) ≡ signed 16 x = rw (← e) g in
          let n : nat_abs (get_or vs j (pos 0)) ≡ 16 = ap nat_abs v ∙ signed_abs 16 x in
          rw (eq-eqb _ _ n, eq-eqb _ _ e, v) (go (escape s at end))
      | no n ↦
          let k : nat_abs (get_or vs j (pos 0)) ≡ 16 → ⊥ = λ q. n (rw (g, signed_abs d x) at q) in
          rw (ne_eqb _ _ k, ne_eqb _ _ n) (ap (λ (us : List ℤ). got us at) z)
    ]
  where
    go : (a : Answer ℕ) → after a (λ m. give (set vs j (signed m (pick (lt_z (signed 16 x) (pos 0)) 1 0)))) s end
        ≡ after a (λ m. give (set vs j (signed m x))) s end
    go (got m next) = ap (λ (y : ℤ). got (set vs j y) next) (signed_sign x m)
    go (refused n p) = refl

module _ (word : Reader ℕ) (base line : ℕ) (lines : List ℤ) (s : List ℕ) (at end : ℕ) where
  module _ (a x b y : ℕ) {next : ℕ} (e : values_by word (kind 2 base 0) s at end
      ≡ got (signed a x ∷ signed b y ∷ pos 0 ∷ pos 0 ∷ []) next) where
    first : escaped 0 (signed a x ∷ signed b y ∷ pos 0 ∷ pos 0 ∷ []) s next end
        ≡ after (magnitude_of a s next end) (λ m. give (signed m x ∷ signed b y ∷ pos 0 ∷ pos 0 ∷ [])) s end
    first = escaped-is a x 0 (signed a x ∷ signed b y ∷ pos 0 ∷ pos 0 ∷ []) s next end refl refl

    second : (m p : ℕ) → escaped 1 (signed m x ∷ signed b y ∷ pos 0 ∷ pos 0 ∷ []) s p end
        ≡ after (magnitude_of b s p end) (λ n. give (signed m x ∷ signed n y ∷ pos 0 ∷ pos 0 ∷ [])) s end
    second m p = escaped-is b y 1 (signed m x ∷ signed b y ∷ pos 0 ∷ pos 0 ∷ []) s p end refl refl

    pub first-refused : {n p : ℕ} → magnitude_of a s next end ≡ refused n p → put_escaped word base line lines s at end ≡ refused n p
    unfolding put_escaped counted
    first-refused q = rw (e, first, q)

    pub second-refused : {m p n r : ℕ} → magnitude_of a s next end ≡ got m p → magnitude_of b s p end ≡ refused n r
        → put_escaped word base line lines s at end ≡ refused n r
    unfolding put_escaped counted
    second-refused {m} {p} q t = rw (e, first, q, second m p, t)

    pub escaped-got : {m p n r : ℕ} → magnitude_of a s next end ≡ got m p → magnitude_of b s p end ≡ got n r
        → put_escaped word base line lines s at end ≡ got (two lines line (signed m x) (signed n y)) r
    unfolding put_escaped counted
    escaped-got {m} {p} {n} {r} q t =
        rw (e, first, q, second m p, t) (ap (λ (us : List ℤ). got us r) (put_two lines line (signed m x) (signed n y) (pos 0) (pos 0)))

-- a digit of a book with fewer numbers than 17 is not the flag
digit-small : (b : Book) (entry j : ℕ) → 1 ≤ b.base → b.base ≤ 16 → digit b entry j ≤ 15
unfolding digit
digit-small b entry j low high = omega (arith, mod-lt (entry / b.base ^ (b.dim - 1 - j)) {m = b.base} (omega arith))

-- a value that is not the flag
value-small : (b : Book) → b.offset ≡ 0 → 1 ≤ b.base → b.base ≤ 16 → (entry j : ℕ) (vs us : List ℤ) (s : List ℕ) (at end m : ℕ)
    → vs ≡ set vs j (pos 0) → value b entry j vs s at end ≡ got us m → (v : ℤ) × (us ≡ set vs j v) × (nat_abs v ≤ 15)
unfolding value field digit
value-small b plain low high entry j vs us s at end m z e =
    elim (ℕ_discrete (digit b entry j) 0) [
      | yes n ↦
          let q : got vs at ≡ got us m = rw (plain, eq-eqb _ _ n) at e in
          let same : vs ≡ us = cc in
          (pos 0, sym same ∙ z, omega arith)
      | no n ↦
          let q : after (field 1 s at end) (λ sign. give (set vs j (signed (digit b entry j) sign))) s end ≡ got us m =
          rw (plain, ne_eqb _ _ n) at e in
          go (field 1 s at end) q
    ]
  where
    go : (a : Answer ℕ) → after a (λ sign. give (set vs j (signed (digit b entry j) sign))) s end ≡ got us m
        → (v : ℤ) × (us ≡ set vs j v) × (nat_abs v ≤ 15)
    go (got x p) q =
        let same : set vs j (signed (digit b entry j) x) ≡ us = cc in
        (signed (digit b entry j) x, sym same, rw (signed_abs (digit b entry j) x) (digit-small b entry j low high))
    go (refused n p) q = let z : ◌≡◌ {A = ℕ} 0 1 = cc in absurd (omega arith)

-- none of two values is the flag
small-two : (v w : ℤ) → nat_abs v ≤ 15 → nat_abs w ≤ 15 → (s : List ℕ) (at end : ℕ)
    → counted 0 2 escaped (v ∷ w ∷ pos 0 ∷ pos 0 ∷ []) s at end ≡ got (v ∷ w ∷ pos 0 ∷ pos 0 ∷ []) at
unfolding counted escaped
small-two v w p q s at end =
    let a : nat_abs v ≡ 16 → ⊥ = λ e. omega arith in
    let b : nat_abs w ≡ 16 → ⊥ = λ e. omega arith in
    rw (ne_eqb _ _ a, ne_eqb _ _ b)

-- two values of such a book have no escapes
module _ (word : Reader ℕ) (base : ℕ) (low : 1 ≤ base) (high : base ≤ 16) (line : ℕ) (lines : List ℤ) (s : List ℕ) (at end : ℕ) where
  values-small : (vs : List ℤ) (m : ℕ) → values_by word (kind 2 base 0) s at end ≡ got vs m
      → (v : ℤ) × (w : ℤ) × (vs ≡ v ∷ w ∷ pos 0 ∷ pos 0 ∷ []) × (nat_abs v ≤ 15) × (nat_abs w ≤ 15)
  unfolding values_by counted
  values-small vs m e = of_word (word s at end) e
    where
      of-second : (entry p : ℕ) (v : ℤ) → nat_abs v ≤ 15 → (a : Answer (List ℤ))
          → value (kind 2 base 0) entry 1 (v ∷ pos 0 ∷ pos 0 ∷ pos 0 ∷ []) s p end ≡ a → after a give s end ≡ got vs m
          → (v : ℤ) × (w : ℤ) × (vs ≡ v ∷ w ∷ pos 0 ∷ pos 0 ∷ []) × (nat_abs v ≤ 15) × (nat_abs w ≤ 15)
      of-second entry p v h (got us q) r e =
          let w = value-small (kind 2 base 0) refl low high entry 1 (v ∷ pos 0 ∷ pos 0 ∷ pos 0 ∷ []) us s p end q refl r in
          let same : us ≡ vs = cc in
          (v, w.0, sym same ∙ w.1, h, w.2)
      of-second entry p v h (refused n q) r e = let z : ◌≡◌ {A = ℕ} 0 1 = cc in absurd (omega arith)

      of-first : (entry p : ℕ) (a : Answer (List ℤ)) → value (kind 2 base 0) entry 0 (pos 0 ∷ pos 0 ∷ pos 0 ∷ pos 0 ∷ []) s p end ≡ a
          → after a (λ us. value (kind 2 base 0) entry 1 us >>= give) s end ≡ got vs m
          → (v : ℤ) × (w : ℤ) × (vs ≡ v ∷ w ∷ pos 0 ∷ pos 0 ∷ []) × (nat_abs v ≤ 15) × (nat_abs w ≤ 15)
      of-first entry p (got us q) r e =
          let v = value-small (kind 2 base 0) refl low high entry 0 (pos 0 ∷ pos 0 ∷ pos 0 ∷ pos 0 ∷ []) us s p end q refl r in
          let e' : after (value (kind 2 base 0) entry 1 (v.0 ∷ pos 0 ∷ pos 0 ∷ pos 0 ∷ []) s q end) give s end ≡ got vs m =
          rw v.1 at e in
          of-second entry q v.0 v.2 (value (kind 2 base 0) entry 1 (v.0 ∷ pos 0 ∷ pos 0 ∷ pos 0 ∷ []) s q end) refl e'
      of-first entry p (refused n q) r e = let z : ◌≡◌ {A = ℕ} 0 1 = cc in absurd (omega arith)

      of_word : (a : Answer ℕ) → after a (λ entry. counted 0 2 (value (kind 2 base 0) entry) (replicate 4 (pos 0))) s end ≡ got vs m
          → (v : ℤ) × (w : ℤ) × (vs ≡ v ∷ w ∷ pos 0 ∷ pos 0 ∷ []) × (nat_abs v ≤ 15) × (nat_abs w ≤ 15)
      of_word (got entry p) e = of-first entry p (value (kind 2 base 0) entry 0 (pos 0 ∷ pos 0 ∷ pos 0 ∷ pos 0 ∷ []) s p end) refl e
      of_word (refused n p) e = let z : ◌≡◌ {A = ℕ} 0 1 = cc in absurd (omega arith)

  pub no-escape : put_escaped word base line lines s at end ≡ put_by word (kind 2 base 0) line lines s at end
  unfolding put_escaped put_by
  no-escape = go (values_by word (kind 2 base 0) s at end) refl
    where
      go : (a : Answer (List ℤ)) → values_by word (kind 2 base 0) s at end ≡ a
          → after a (λ vs. counted 0 2 escaped vs >>= λ us. give (put lines line 2 us)) s end
          ≡ after a (λ vs. give (put lines line 2 vs)) s end
      go (got vs m) e =
          let x = values-small vs m e in
          let q : counted 0 2 escaped vs s m end ≡ got vs m = rw x.2 (small-two x.0 x.1 x.3 x.4 s m end) in
          rw q
      go (refused n p) e = refl
