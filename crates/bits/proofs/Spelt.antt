-- Read, then spelled: the bits that a reading used are the spelling of what it gave. Proved of each primitive, and kept by the ways of
-- putting readers together.
-- Assumes nothing.
use Prim.Native.Nat.{ℕ, zero, suc, ◌+◌, ◌-◌, ◌<◌, ◌≤◌, ◌^◌}
use mathlib.Core.Path.{◌≡◌, refl, sym, ◌∙◌, ap, subst}
use mathlib.Core.List.{List, [], ◌∷◌, ◌++◌, append_assoc}
use mathlib.Core.Bool.{Bool, true, false}
use native.Mathlib.Omega.{arith}
use native.Mathlib.Decide.{dec_le}
use native.Mathlib.Nat.{add-zero, zero-add, add_assoc}
use borrow.Author.Tests.{le-leb, lt-leb}
use lib.ListN.{length, length-append, get_or, replicate}
use Rattle.bits.specs.Bits.{bits_from}
use Rattle.bits.specs.Reader.{got, refused, Reader, give, refuse, ◌>>=◌, pick, expecting}
use Rattle.bits.specs.Field.{field}
use Rattle.bits.specs.Loop.{counted, more, listed}
use Rattle.bits.specs.Places.{one_field, here, refuse_at}
use Rattle.bits.specs.Inside.{inside, Fill, left_over}
use Rattle.bits.specs.Pieces.{Piece, piece, total}
use Rattle.bits.proofs.Holds.{Holds}
use Rattle.bits.specs.Spelled.{spell_each, spell_fill}
use Rattle.bits.proofs.BitLaws.{bits_from-lt}
use Rattle.bits.proofs.Lawful.{never, split, tested-got}
use Rattle.bits.proofs.FieldLaws.{field-taken}
use Rattle.bits.proofs.PlacesLaws.{placed-got}
use Rattle.bits.proofs.InsideLaws.{Filling, inside-got}

pub total-append : (ps qs : List Piece) → total (ps ++ qs) ≡ total ps + total qs
total-append [] qs = omega arith
total-append (p ∷ ps) qs = omega (arith, total-append ps qs)

pub append-nil : {A : Type 0} (xs : List A) → xs ++ [] ≡ xs
append-nil [] = refl
append-nil {A} (x ∷ xs) = ap (λ (l : List A). x ∷ l) (append-nil xs)

pub holds-append : (s : List ℕ) (at : ℕ) (ps qs : List Piece) → Holds s at ps → Holds s (at + total ps) qs → Holds s at (ps ++ qs)
holds-append s at [] qs h g = rw add-zero at g
holds-append s at (p ∷ ps) qs h g = (h.0, holds-append s (at + p.size) ps qs h.1 (rw (← add_assoc) at g))

-- with what was spelled before, what is read is the spelling of the value; and something is known of the value
pub record Spelt {A : Type 0} (r : Reader A) (before : List Piece) (w : A → List Piece) (ok : A → Type 0) : Type 0 where
  pub law : (s : List ℕ) (at end next : ℕ) (a : A) → r s at end ≡ got a next
      → (ps : List Piece) × (w a ≡ before ++ ps) × Holds s at ps × (next ≡ at + total ps) × ok a

-- a law of spelling with other words for what is known
pub told : {A : Type 0} {r : Reader A} {before after : List Piece} {w : A → List Piece} {ok ok' : A → Type 0}
    → after ≡ before → ((a : A) → ok a → ok' a) → Spelt r after w ok → Spelt r before w ok'
told e f g = record {
  law = λ s at end next a q.
      let x = g.law s at end next a q in
      (x.0, rw (← e) x.1, x.2, x.3, f a x.4);
}

-- another spelling of the same values, with what was spelled before
pub respelt : {A : Type 0} {r : Reader A} {before : List Piece} {w w' : A → List Piece} {ok : A → Type 0}
    → ((a : A) → ok a → w' a ≡ before ++ w a) → Spelt r [] w ok → Spelt r before w' ok
respelt f g = record {
  law = λ s at end next a q.
      let x = g.law s at end next a q in
      (x.0, f a x.4 ∙ rw x.1, x.2, x.3, x.4);
}

pub give-spelt : {A : Type 0} {a : A} {before : List Piece} {w : A → List Piece} {ok : A → Type 0} → w a ≡ before → ok a
    → Spelt (give a) before w ok
give-spelt {A} {a} {before} {w} {ok} e o = record {
  law = λ s at end next b q.
      let u : a ≡ b = cc in
      let v : at ≡ next = cc in
      ([], ap w (sym u) ∙ e ∙ sym (append-nil before), tt, omega arith, subst ok u o);
}

pub refusing_spelt : {A : Type 0} {n : ℕ} {place : ℕ → ℕ} {before : List Piece} {w : A → List Piece} {ok : A → Type 0}
    → Spelt {A = A} (λ s at end. refused n (place at)) before w ok
refusing_spelt = record { law = λ s at end next b q. never q }

pub refuse-spelt : {A : Type 0} {n : ℕ} {before : List Piece} {w : A → List Piece} {ok : A → Type 0} → Spelt {A = A} (refuse n) before w ok
refuse-spelt = refusing_spelt

pub refuse_at-spelt : {A : Type 0} (n place : ℕ) {before : List Piece} {w : A → List Piece} {ok : A → Type 0}
    → Spelt {A = A} (refuse_at n place) before w ok
unfolding refuse_at
refuse_at-spelt n place = refusing_spelt

-- the place at hand is no part of a spelling
pub here-spelt : Spelt here [] (λ p. []) (λ p. Unit)
unfolding here
here-spelt = record { law = λ s at end next p q. let v : at ≡ next = cc in ([], refl, tt, omega arith, tt) }

pub bind_spelt : {A B : Type 0} {r : Reader A} {k : A → Reader B} {before : List Piece} {w : A → List Piece} {v : B → List Piece}
    {ok : A → Type 0} {ok' : B → Type 0}
    → Spelt r [] w ok → ((a : A) → ok a → Spelt (k a) (before ++ w a) v ok') → Spelt (r >>= k) before v ok'
bind_spelt {r = r} {k = k} {before = before} g h = record {
  law = λ s at end next b e.
      let x = split (r s at end) k s end next b e in
      let y = g.law s at end x.1 x.0 x.2 in
      let z = (h x.0 y.4).law s x.1 end next b x.3 in (
        y.0 ++ z.0,
        z.1 ∙ rw (y.1, append_assoc),
        holds-append s at y.0 z.0 y.2 (subst (λ (m : ℕ). Holds s m z.0) y.3 z.2),
        rw (total-append y.0 z.0) (omega arith),
        z.4,
      );
}

pub field-spelt : (n : ℕ) → Spelt (field n) [] (λ v. piece v n ∷ []) (λ v. v < 2 ^ n)
field-spelt n = record {
  law = λ s at end next a e.
      let x = field-taken n s at end next a e in
      (piece a n ∷ [], refl, (sym x.1, tt), omega arith, rw x.1 (bits_from-lt s at n));
}

pub expecting-spelt : {A : Type 0} (n : ℕ) (t : A → Bool) {r : Reader A} {before : List Piece} {w : A → List Piece} {ok : A → Type 0}
    → Spelt r before w ok → Spelt (expecting n t r) before w (λ a. ok a × (t a ≡ true))
expecting-spelt n t {r} g = record {
  law = λ s at end next a e.
      let x = tested-got (r s at end) n t at next a e in
      let y = g.law s at end next a x.0 in
      (y.0, y.1, y.2, y.3, (y.4, x.1));
}

pub one_field-spelt : {A : Type 0} {r : Reader A} {before : List Piece} {w : A → List Piece} {ok : A → Type 0} → Spelt r before w ok
    → Spelt (one_field r) before w ok
unfolding one_field
one_field-spelt {r = r} g = record { law = λ s at end next a e. g.law s at end next a (placed-got (r s at end) at next a e) }

pub pick-spelt : {A : Type 0} (b : Bool) {r q : Reader A} {before : List Piece} {w : A → List Piece} {ok : A → Type 0}
    → (b ≡ true → Spelt r before w ok) → (b ≡ false → Spelt q before w ok) → Spelt (pick b r q) before w ok
pick-spelt true g h = g refl
pick-spelt false g h = h refl

-- a loop, each turn of which spells on from what the state has spelled; what is known of the state goes by the turn
pub counted-spelt : {S : Type 0} {f : ℕ → S → Reader S} {w : S → List Piece} (ok : ℕ → S → Type 0)
    → ((i : ℕ) (x : S) → ok i x → Spelt (f i x) (w x) w (ok (i + 1))) → (i n : ℕ) (x : S) → ok i x
    → Spelt (counted i n f x) (w x) w (ok (i + n))
unfolding counted
counted-spelt ok g i zero x o = give-spelt refl (rw add-zero o)
counted-spelt {S} {f} {w} ok g i (suc n) x o = record {
  law = λ s at end next b e.
      let y = split (f i x s at end) (counted (i + 1) n f) s end next b e in
      let u = (g i x o).law s at end y.1 y.0 y.2 in
      let z = (counted-spelt ok g (i + 1) n y.0 u.4).law s y.1 end next b y.3 in (
        u.0 ++ z.0,
        z.1 ∙ rw (u.1, append_assoc),
        holds-append s at u.0 z.0 u.2 (subst (λ (m : ℕ). Holds s m z.0) u.3 z.2),
        rw (total-append u.0 z.0) (omega arith),
        subst (λ (k : ℕ). ok k b) (let q : i + 1 + n ≡ i + suc n = omega arith in q) z.4,
      );
}

-- each element has a property
abbrev pub Every : {A : Type 0} → (A → Type 0) → List A → Type 0
Every P [] = Unit
Every P (x ∷ xs) = P x × Every P xs

pub every_append : {A : Type 0} (P : A → Type 0) (xs ys : List A) → Every P xs → Every P ys → Every P (xs ++ ys)
every_append P [] ys p q = q
every_append P (x ∷ xs) ys p q = (p.0, every_append P xs ys p.1 q)

pub every-replicate : {A : Type 0} (P : A → Type 0) (n : ℕ) (x : A) → P x → Every P (replicate n x)
every-replicate P zero x p = tt
every-replicate P (suc n) x p = (p, every-replicate P n x p)

pub every-at : {A : Type 0} (P : A → Type 0) (xs : List A) (i : ℕ) (d : A) → Every P xs → P d → P (get_or xs i d)
every-at P [] i d p q = q
every-at P (x ∷ xs) zero d p q = p.0
every-at P (x ∷ xs) (suc i) d p q = every-at P xs i d p.1 q

pub spell_snoc : {A : Type 0} (w : List A → A → List Piece) (done xs : List A) (x : A)
    → spell_each w done (xs ++ x ∷ []) ≡ spell_each w done xs ++ w (done ++ xs) x
spell_snoc w done [] x = rw (append-nil done, append-nil (w done x))
spell_snoc w done (y ∷ xs) x =
    rw (spell_snoc w (done ++ y ∷ []) xs x, append_assoc done (y ∷ []) xs)
    (sym (append_assoc (w done y) (spell_each w (done ++ y ∷ []) xs) (w (done ++ y ∷ xs) x)))

pub listed-spelt : {A : Type 0} {f : List A → Reader A} {w : List A → A → List Piece} (P : A → Type 0)
    → ((xs : List A) → Spelt (f xs) [] (w xs) P) → (n : ℕ) → Spelt (listed n f) [] (spell_each w []) (λ xs. (length xs ≡ n) × Every P xs)
unfolding listed
listed-spelt {A} {f} {w} P g n =
    told refl (λ xs o. (o.0 ∙ zero-add n, o.1)) (counted-spelt {f = more f} (λ i xs. (length xs ≡ i) × Every P xs)
    (λ i xs o. bind_spelt (g xs) λ x p.
    give-spelt (spell_snoc w [] xs x) (rw (length-append xs (x ∷ [])) (omega arith), every_append P xs (x ∷ []) o.1 (p, tt)))
    0 n [] (refl, tt))

abbrev pub Filled : ℕ → Fill → Type 0
Filled most x = (x.count ≤ most) × (x.value < 2 ^ x.count)

pub left_over-spelt : (most : ℕ) {other : Reader Fill} → Spelt other [] spell_fill (Filled most)
    → Spelt (left_over most other) [] spell_fill (Filled most)
unfolding left_over
left_over-spelt most {other} g = record {
  law = λ s at end next x e.
      elim (dec_le (end - at) most) [
        | yes d ↦
            let q : got (record { count = end - at; value = bits_from s at (end - at) }) (at + (end - at)) ≡ got x next =
            rw (le-leb _ _ d) at e in
            let y : ◌≡◌ {A = Fill} (record { count = end - at; value = bits_from s at (end - at) }) x = cc in
            let c : end - at ≡ x.count = ap (λ (z : Fill). z.count) y in
            let v : bits_from s at (end - at) ≡ x.value = ap (λ (z : Fill). z.value) y in
            let m : at + (end - at) ≡ next = cc in
            (spell_fill x, refl, (rw (← c) v, tt), omega arith, (omega arith, rw (← v, ← c) (bits_from-lt s at (end - at))))
        | no d ↦ g.law s at end next x (rw (lt-leb (end - at) most (omega arith)) at e)
      ];
}

-- a part of n bits that is filled is spelled in n bits
pub inside-spelt : {A : Type 0} (n short : ℕ) {r : Reader A} {w : A → List Piece} {ok : A → Type 0} → Filling r → Spelt r [] w ok
    → Spelt (inside n short r) [] w (λ a. ok a × (total (w a) ≡ n))
inside-spelt n short {r} {w} f g = record {
  law = λ s at end next a e.
      let x = inside-got n short r s at end next a e in
      let u = f.full s at (at + n) next a (omega arith) x.1 in
      let y = g.law s at (at + n) next a x.1 in
      let t : total (w a) ≡ total y.0 = ap total y.1 in
      (y.0, y.1, y.2, y.3, (y.4, omega arith));
}
