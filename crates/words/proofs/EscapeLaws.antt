-- Laws of the escape: reading, spelled then read, read then spelled, and what a loop of the code cites.
-- Assumes nothing.
use Prim.Native.Nat.{ℕ, zero, suc, ◌+◌, ◌-◌, ◌*◌, ◌<◌, ◌≤◌, ◌^◌}
use mathlib.Core.Path.{◌≡◌, refl, sym, ◌∙◌, ap, subst}
use mathlib.Core.Bool.{false}
use mathlib.Core.List.{List, [], ◌∷◌, ◌++◌}
use native.Mathlib.Omega.{arith}
use native.Mathlib.Nat.{pow-suc}
use native.Mathlib.Decide.{dec_lt}
use lib.Dec.{eqb}
use lib.Pow.{pow_mono}
use borrow.Author.Tests.{eq-eqb, ne_eqb, lt-ltb, le-ltb, eqb-true, eqb-false}
use Rattle.bits.specs.Reader.{Answer, got, refused, Reader, give, pick, after, ◌>>=◌}
use Rattle.bits.specs.Field.{field}
use Rattle.bits.specs.Places.{placed, one_field}
use Rattle.bits.specs.Pieces.{piece}
use Rattle.bits.proofs.Lawful.{Lawful, bind_lawful, not-refused, give-lawful, refuse-lawful, pick-lawful}
use Rattle.bits.proofs.FieldLaws.{field-lawful}
use Rattle.bits.proofs.Taken.{field_below}
use Rattle.bits.proofs.PlacesLaws.{placed-got, one_field-lawful}
use Rattle.bits.proofs.Spelt.{Spelt, told, give-spelt, refuse-spelt, bind_spelt, field-spelt, pick-spelt, one_field-spelt, respelt}
use Rattle.bits.proofs.Back.{Back, give-back, bind_back, field_back, one_field-back}
use Rattle.words.specs.Escape.{ones, magnitude, escape, ones_from, spell_ones, spell_escape}

ruleset lawfuls = (bind_lawful, field-lawful, not-refused, give-lawful, refuse-lawful, pick-lawful, one_field-lawful)

pub ones-lawful : (k n : ℕ) → Lawful (ones k n)
unfolding ones
ones-lawful zero n = refuse-lawful 26
ones-lawful (suc k) n = bind_lawful (field 1) _ (field-lawful 1) (λ one. pick-lawful (eqb one 1) (ones-lawful k (n + 1)) (give-lawful n))

pub escape-lawful : Lawful escape
unfolding escape
escape-lawful = search (lawfuls, ones-lawful) depth 8

-- a bit that is not 1 is 0
other_bit : (b : ℕ) → b < 2 → eqb b 1 ≡ false → b ≡ 0
other_bit b h e = let d = eqb-false b 1 e in omega arith

pub ones-spelt : (k n : ℕ) → Spelt (ones k n) [] (λ m. spell_ones (m - n)) (λ m. (n ≤ m) × (m < n + k))
unfolding ones
ones-spelt zero n = refuse-spelt
ones-spelt (suc k) n =
    bind_spelt (field-spelt 1) λ one o.
    pick-spelt (eqb one 1)
    (λ e. told refl (λ m p. (omega arith, omega arith)) (respelt (λ m p. more one m (eqb-true one 1 e) p.0) (ones-spelt k (n + 1))))
    (λ e. give-spelt (last one (other_bit one o e)) (omega arith, omega arith))
  where
    more : (one m : ℕ) → one ≡ 1 → n + 1 ≤ m → spell_ones (m - n) ≡ [] ++ piece one 1 ∷ [] ++ spell_ones (m - (n + 1))
    more one m e h = let q : m - n ≡ suc (m - (n + 1)) = omega arith in rw (q, e)

    last : (one : ℕ) → one ≡ 0 → spell_ones (n - n) ≡ [] ++ piece one 1 ∷ []
    last one e = let q : n - n ≡ 0 = omega arith in rw (q, e)

-- a magnitude of N ones has N ones
next_power : (n : ℕ) → 2 ^ (n + 5) ≡ 2 ^ (n + 4) * 2
next_power n = ap (λ (k : ℕ). 2 ^ k) (let q : n + 5 ≡ suc (n + 4) = omega arith in q) ∙ pow-suc 2 (n + 4)

ones_from-is : (k j n v : ℕ) → j ≤ n → n < j + k → v < 2 ^ (n + 4) → ones_from k j (2 ^ (n + 4) + v) ≡ n
unfolding ones_from
ones_from-is zero j n v h g l = absurd (omega arith)
ones_from-is (suc k) j n v h g l =
    elim (dec_lt j n) [
      | yes d ↦
          rw (le-ltb (2 ^ (n + 4) + v) (2 ^ (j + 5)) (omega (arith, pow_mono {i = j + 5} {j = n + 4} (omega arith))))
          (ones_from-is k (j + 1) n v (omega arith) (omega arith) l)
      | no d ↦
          let q : j ≡ n = omega arith in
          rw (q, lt-ltb (2 ^ (n + 4) + v) (2 ^ (n + 5)) (omega (arith, next_power n)))
    ]

spell-is : (n v : ℕ) → n < 9 → v < 2 ^ (n + 4) → spell_escape (magnitude n v) ≡ spell_ones n ++ piece v (n + 4) ∷ []
unfolding spell_escape magnitude
spell-is n v h l =
    let q : 2 ^ (n + 4) + v - 2 ^ (n + 4) ≡ v = omega arith in
    rw (ones_from-is 9 0 n v (omega arith) (omega arith) l, q)

magnitude-range : (n v : ℕ) → n < 9 → v < 2 ^ (n + 4) → (16 ≤ magnitude n v) × (magnitude n v < 8192)
unfolding magnitude
magnitude-range n v h l =
    let a : 2 ^ 4 ≤ 2 ^ (n + 4) = pow_mono {i = 4} {j = n + 4} (omega arith) in
    let b : 2 ^ (n + 4) ≤ 2 ^ 12 = pow_mono {i = n + 4} {j = 12} (omega arith) in
    (omega arith, omega arith)

-- read, then spelled; and a magnitude is 16 to 8191
pub escape-spelt : Spelt escape [] spell_escape (λ m. (16 ≤ m) × (m < 8192))
unfolding escape
escape-spelt =
    one_field-spelt (bind_spelt (ones-spelt 9 0) λ n o.
    bind_spelt (field-spelt (n + 4)) λ v l.
    give-spelt (spell-is n v (omega arith) l ∙ (let q : n - 0 ≡ n = omega arith in rw q)) (magnitude-range n v (omega arith) l))

-- spelled, then read
pub ones-back : (k j n : ℕ) → j ≤ n → n < j + k → Back (ones k j) n (spell_ones (n - j))
unfolding ones
ones-back zero j n h g = absurd (omega arith)
ones-back (suc k) j n h g =
    elim (dec_lt j n) [
      | yes d ↦
          let q : n - j ≡ suc (n - (j + 1)) = omega arith in
          rw q (bind_back (λ one. pick (eqb one 1) (ones k (j + 1)) (give j)) field_back
          (ones-back k (j + 1) n (omega arith) (omega arith)))
      | no d ↦
          let q : n - j ≡ 0 = omega arith in
          let e : j ≡ n = omega arith in
          rw (q, e) (bind_back (λ one. pick (eqb one 1) (ones k (n + 1)) (give n)) field_back give-back)
    ]

pub escape-back : (n v : ℕ) → n < 9 → v < 2 ^ (n + 4) → Back escape (magnitude n v) (spell_escape (magnitude n v))
unfolding escape
escape-back n v h l =
    let o : Back (ones 9 0) n (spell_ones n) =
    subst (λ (k : ℕ). Back (ones 9 0) n (spell_ones k)) (let q : n - 0 ≡ n = omega arith in q)
    (ones-back 9 0 n (omega arith) (omega arith)) in
    rw (spell-is n v h l)
    (one_field-back (bind_back (λ n. field (n + 4) >>= λ v. give (magnitude n v)) o
    (bind_back (λ v. give (magnitude n v)) field_back give-back)))

-- as the code's loop goes: n ones are there
module _ (n : ℕ) (s : List ℕ) (at end : ℕ) where
  pub ones-short : (r p : ℕ) → n < 9 → field 1 s at end ≡ refused r p → ones (9 - n) n s at end ≡ refused r p
  unfolding ones
  ones-short r p h e = let q : 9 - n ≡ suc (9 - (n + 1)) = omega arith in rw q (simp e)

  pub ones-last : (b m : ℕ) → n < 9 → field 1 s at end ≡ got b m → (b ≡ 1 → ⊥) → ones (9 - n) n s at end ≡ got n m
  unfolding ones
  ones-last b m h e z = let q : 9 - n ≡ suc (9 - (n + 1)) = omega arith in rw q (simp (e, ne_eqb b 1 z))

  pub ones-more : (b m : ℕ) → n < 9 → field 1 s at end ≡ got b m → b ≡ 1 → ones (9 - n) n s at end ≡ ones (9 - (n + 1)) (n + 1) s m end
  unfolding ones
  ones-more b m h e z =
      let q : 9 - n ≡ suc (9 - (n + 1)) = omega arith in
      ap (λ (j : ℕ). ones j n s at end) q ∙ simp (e, eq-eqb b 1 z)

  pub ones-nine : 9 ≤ n → ones (9 - n) n s at end ≡ refused 26 at
  unfolding ones
  ones-nine h = let q : 9 - n ≡ 0 = omega arith in rw q

-- a reading that is moved to its first bit, and refused there
moved : {A B : Type 0} (x : Answer A) (k : A → Reader B) (s : List ℕ) (at end r p : ℕ)
    → placed x at ≡ refused r p → placed (after x k s end) at ≡ refused r p
moved (got b m) k s at end r p e = not-refused e
moved (refused n q) k s at end r p e = cc

-- the whole, by its two readings
module _ (s : List ℕ) (at end : ℕ) where
  pub escape-cut : (r p : ℕ) → placed (ones 9 0 s at end) at ≡ refused r p → escape s at end ≡ refused r p
  unfolding escape one_field
  escape-cut r p e = moved (ones 9 0 s at end) _ s at end r p e

  pub escape-short : (n m r p : ℕ) → ones 9 0 s at end ≡ got n m → placed (field (n + 4) s m end) at ≡ refused r p
      → escape s at end ≡ refused r p
  unfolding escape one_field
  escape-short n m r p e f = rw e (moved (field (n + 4) s m end) _ s at end r p f)

  pub escape-is : (n m v l : ℕ) → ones 9 0 s at end ≡ got n m → field (n + 4) s m end ≡ got v l → escape s at end ≡ got (2 ^ (n + 4) + v) l
  unfolding escape one_field magnitude
  escape-is n m v l e f = rw (e, f)

  -- at most eight ones
  pub ones-few : (n m : ℕ) → ones 9 0 s at end ≡ got n m → n < 9
  ones-few n m e = ((ones-spelt 9 0).law s at end m n e).4.1

  -- what the code knows of the ones and of the number after them, each moved to the escape's first bit
  pub ones-known : (x : Answer ℕ) (n m : ℕ) → x ≡ ones 9 0 s at end → got n m ≡ placed x at → (ones 9 0 s at end ≡ got n m) × (n < 9)
  ones-known x n m e f =
      let k : ones 9 0 s at end ≡ got n m = sym e ∙ placed-got x at m n (sym f) in
      (k, ones-few n m k)

  pub rest_known : (x : Answer ℕ) (n m v l : ℕ) → x ≡ field (n + 4) s m end → got v l ≡ placed x at
      → (field (n + 4) s m end ≡ got v l) × (v < 2 ^ (n + 4))
  rest_known x n m v l e f =
      let k : field (n + 4) s m end ≡ got v l = sym e ∙ placed-got x at l v (sym f) in
      (k, field_below (n + 4) s m end v l k)
