-- Spelled, then read: where the bits are a value's spelling, the value is read. Proved of each primitive, and kept by the ways of putting
-- readers together.
-- Assumes nothing.
use Prim.Native.Nat.{ℕ, zero, suc, ◌+◌, ◌-◌, ◌≤◌}
use mathlib.Core.Path.{◌≡◌, refl, sym, ◌∙◌, ap, subst}
use mathlib.Core.List.{List, [], ◌∷◌, ◌++◌, append_assoc}
use mathlib.Core.Bool.{Bool, true, false}
use native.Mathlib.Omega.{arith}
use native.Mathlib.Nat.{add-zero, add_assoc}
use borrow.Author.Tests.{le-leb}
use lib.ListN.{length}
use Rattle.bits.specs.Reader.{got, Reader, give, ◌>>=◌, pick, expecting}
use Rattle.bits.specs.Field.{field}
use Rattle.bits.specs.Loop.{counted, more, listed}
use Rattle.bits.specs.Places.{one_field}
use Rattle.bits.specs.Inside.{inside, Fill, left_over}
use Rattle.bits.specs.Pieces.{Piece, piece, total}
use Rattle.bits.proofs.Holds.{Holds}
use Rattle.bits.specs.Spelled.{spell_each, spell_fill}
use Rattle.bits.proofs.FieldLaws.{is_field}
use Rattle.bits.proofs.InsideLaws.{inside-there}
use Rattle.bits.proofs.Spelt.{total-append, append-nil}

pub holds-first : (s : List ℕ) (at : ℕ) (ps qs : List Piece) → Holds s at (ps ++ qs) → Holds s at ps
holds-first s at [] qs h = tt
holds-first s at (p ∷ ps) qs h = (h.0, holds-first s (at + p.size) ps qs h.1)

pub holds-rest : (s : List ℕ) (at : ℕ) (ps qs : List Piece) → Holds s at (ps ++ qs) → Holds s (at + total ps) qs
holds-rest s at [] qs h = rw add-zero h
holds-rest s at (p ∷ ps) qs h = rw (← add_assoc) (holds-rest s (at + p.size) ps qs h.1)

-- the value is read wherever the end is, if it is not before the spelling's
pub record Back {A : Type 0} (r : Reader A) (a : A) (ps : List Piece) : Type 0 where
  pub law : (s : List ℕ) (at end : ℕ) → Holds s at ps → at + total ps ≤ end → r s at end ≡ got a (at + total ps)

pub give-back : {A : Type 0} {a : A} → Back (give a) a []
give-back = record { law = λ s at end h l. rw add-zero }

pub field_back : {n v : ℕ} → Back (field n) v (piece v n ∷ [])
field_back {n} {v} = record { law = λ s at end h l. rw add-zero (sym (is_field n s at end (omega arith) (sym h.0))) }

pub expecting-back : {A : Type 0} (n : ℕ) (t : A → Bool) {r : Reader A} {a : A} {ps : List Piece} → t a ≡ true → Back r a ps
    → Back (expecting n t r) a ps
expecting-back n t e g = record { law = λ s at end h l. rw (g.law s at end h l, e) }

pub pick-back : {A : Type 0} (b : Bool) {r q : Reader A} {a : A} {ps : List Piece} → (b ≡ true → Back r a ps)
    → (b ≡ false → Back q a ps) → Back (pick b r q) a ps
pick-back true g h = g refl
pick-back false g h = h refl

pub one_field-back : {A : Type 0} {r : Reader A} {a : A} {ps : List Piece} → Back r a ps → Back (one_field r) a ps
unfolding one_field
one_field-back g = record { law = λ s at end h l. rw (g.law s at end h l) }

pub bind_back : {A B : Type 0} {r : Reader A} (k : A → Reader B) {a : A} {b : B} {ps qs : List Piece}
    → Back r a ps → Back (k a) b qs → Back (r >>= k) b (ps ++ qs)
bind_back k {ps = ps} {qs = qs} g h = record {
  law = λ s at end p l.
      let t = total-append ps qs in
      rw (g.law s at end (holds-first s at ps qs p) (omega arith), t, ← add_assoc)
      (h.law s (at + total ps) end (holds-rest s at ps qs p) (omega arith));
}

-- the spelling of n turns from a turn on
abbrev pub spell_turns : (ℕ → List Piece) → ℕ → ℕ → List Piece
spell_turns w i zero = []
spell_turns w i (suc n) = w i ++ spell_turns w (i + 1) n

-- a loop, of whose states each turn reads the next
pub counted_back : {S : Type 0} (f : ℕ → S → Reader S) (x : ℕ → S) (w : ℕ → List Piece) → ((i : ℕ) → Back (f i (x i)) (x (i + 1)) (w i))
    → (i n : ℕ) → Back (counted i n f (x i)) (x (i + n)) (spell_turns w i n)
unfolding counted
counted_back f x w g i zero = record { law = λ s at end h l. rw (add-zero i, add-zero at) }
counted_back {S} f x w g i (suc n) =
    subst (λ (y : S). Back (f i (x i) >>= counted (i + 1) n f) y (w i ++ spell_turns w (i + 1) n))
    (ap x (let q : i + 1 + n ≡ i + suc n = omega arith in q))
    (bind_back (counted (i + 1) n f) (g i) (counted_back f x w g (i + 1) n))

-- each element, with those before it
abbrev pub EachBack : {A : Type 0} → (List A → Reader A) → (List A → A → List Piece) → List A → List A → Type 0
EachBack f w xs [] = Unit
EachBack f w xs (y ∷ ys) = Back (f xs) y (w xs y) × EachBack f w (xs ++ y ∷ []) ys

-- a list, each element of which is read back after those before it
module _ {A : Type 0} (f : List A → Reader A) (w : List A → A → List Piece) where
  from_back : (i : ℕ) (xs ys : List A) → EachBack f w xs ys → Back (counted i (length ys) (more f) xs) (xs ++ ys) (spell_each w xs ys)
  unfolding counted
  from_back i xs [] b = record { law = λ s at end h l. rw (append-nil xs, add-zero) }
  from_back i xs (y ∷ ys) b =
      let one : Back (more f i xs) (xs ++ y ∷ []) (w xs y) =
      subst (λ (ps : List Piece). Back (more f i xs) (xs ++ y ∷ []) ps) (append-nil (w xs y))
      (bind_back (λ x. give (xs ++ x ∷ [])) b.0 give-back) in
      subst (λ (zs : List A). Back (more f i xs >>= counted (i + 1) (length ys) (more f)) zs (w xs y ++ spell_each w (xs ++ y ∷ []) ys))
      (append_assoc xs (y ∷ []) ys)
      (bind_back (counted (i + 1) (length ys) (more f)) one (from_back (i + 1) (xs ++ y ∷ []) ys b.1))

  pub listed_back : (ys : List A) → EachBack f w [] ys → Back (listed (length ys) f) ys (spell_each w [] ys)
  unfolding listed
  listed_back ys b = from_back 0 [] ys b

-- the value is read where the end is the spelling's: of readers that fill a part
pub record BackTo {A : Type 0} (r : Reader A) (a : A) (ps : List Piece) : Type 0 where
  pub law : (s : List ℕ) (at : ℕ) → Holds s at ps → r s at (at + total ps) ≡ got a (at + total ps)

pub then_back_to : {A B : Type 0} {r : Reader A} (k : A → Reader B) {a : A} {b : B} {ps qs : List Piece}
    → Back r a ps → BackTo (k a) b qs → BackTo (r >>= k) b (ps ++ qs)
then_back_to k {ps = ps} {qs = qs} g h = record {
  law = λ s at p.
      let t = total-append ps qs in
      rw (g.law s at (at + total (ps ++ qs)) (holds-first s at ps qs p) (omega arith), t, ← add_assoc)
      (h.law s (at + total ps) (holds-rest s at ps qs p));
}

pub back_to-give : {A B : Type 0} {r : Reader A} (f : A → B) {a : A} {ps : List Piece} → BackTo r a ps
    → BackTo (r >>= λ x. give (f x)) (f a) ps
back_to-give f g = record { law = λ s at p. rw (g.law s at p) }

pub left_over-back : (most : ℕ) (other : Reader Fill) {x : Fill} → x.count ≤ most → BackTo (left_over most other) x (spell_fill x)
unfolding left_over
left_over-back most other {x} h = record {
  law = λ s at p.
      let c : at + (x.count + 0) - at ≡ x.count = omega arith in
      rw (c, le-leb x.count most h, p.0, add-zero);
}

pub inside_back : {A : Type 0} (n short : ℕ) {r : Reader A} {a : A} {ps : List Piece} → BackTo r a ps → total ps ≡ n
    → Back (inside n short r) a ps
inside_back n short {r} g e = record {
  law = λ s at end h l. inside-there n short r s at end (omega arith) ∙ rw (← e, g.law s at h);
}
