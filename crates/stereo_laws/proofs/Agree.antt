-- Two readers agree on values of some sort: what the one reads to such a value, the other does.
-- Assumes nothing.
use Prim.Native.Nat.{ℕ, zero, suc, ◌+◌}
use mathlib.Core.Path.{◌≡◌, refl, sym, ◌∙◌, ap, subst}
use mathlib.Core.List.{List, [], ◌∷◌, ◌++◌}
use mathlib.Core.Bool.{Bool, true, false}
use Rattle.bits.specs.Reader.{Reader, got, give, ◌>>=◌, pick}
use Rattle.bits.specs.Loop.{counted, more, listed}
use Rattle.bits.specs.Inside.{renumbered, inside}
use Rattle.bits.proofs.Lawful.{split, same-value}
use Rattle.bits.proofs.Gives.{Gives, give-gives, then_gives, counted-gives}
use Rattle.bits.proofs.LoopLaws.{more-got}
use Rattle.bits.proofs.InsideLaws.{inside-got, inside-there}

pub record Agree {A : Type 0} (r q : Reader A) (P : A → Type 0) : Type 0 where
  pub law : (s : List ℕ) (at end next : ℕ) (a : A) → r s at end ≡ got a next → P a → q s at end ≡ got a next

pub same-agree : {A : Type 0} {r : Reader A} {P : A → Type 0} → Agree r r P
same-agree = record { law = λ s at end next a e p. e }

-- one reading after another: what is known of the value in the end is known of the value between
pub bind_agree : {A B : Type 0} {r q : Reader A} {k l : A → Reader B} {P : A → Type 0} {Q : B → Type 0}
    → Agree r q P → ((a : A) → Gives (λ b. Q b → P a) (k a)) → ((a : A) → P a → Agree (k a) (l a) Q) → Agree (r >>= k) (q >>= l) Q
bind_agree {r = r} {k = k} g p h = record {
  law = λ s at end next b e z.
      let w = split (r s at end) k s end next b e in
      let x = (p w.0).law s w.1 end next b w.3 z in
      rw (g.law s at end w.1 w.0 w.2 x) ((h w.0 x).law s w.1 end next b w.3 z);
}

-- where the first reading is the same
pub then_agree : {A B : Type 0} (r : Reader A) {k l : A → Reader B} {Q : B → Type 0} → ((a : A) → Agree (k a) (l a) Q)
    → Agree (r >>= k) (r >>= l) Q
then_agree r {k = k} h = record {
  law = λ s at end next b e z.
      let w = split (r s at end) k s end next b e in
      rw w.2 ((h w.0).law s w.1 end next b w.3 z);
}

pub pick-agree : {A : Type 0} (b : Bool) {r q t u : Reader A} {P : A → Type 0} → Agree r q P → Agree t u P
    → Agree (pick b r t) (pick b q u) P
pick-agree true g h = g
pick-agree false g h = h

pub inside-agree : {A : Type 0} (n short : ℕ) {r q : Reader A} {P : A → Type 0} → Agree r q P
    → Agree (inside n short r) (inside n short q) P
inside-agree {A} n short {r} {q} g = record {
  law = λ s at end next a e p.
      let w = inside-got n short r s at end next a e in
      inside-there n short q s at end w.0 ∙ ap (renumbered short) (g.law s at (at + n) next a w.1 p);
}

module _ {A : Type 0} where
  -- what is read goes on from what was there
  more-first : (f : List A → Reader A) (i : ℕ) (x : A) (xs : List A) → Gives (λ ys. (zs : List A) × (ys ≡ x ∷ zs)) (more f i (x ∷ xs))
  more-first f i x xs = then_gives (f (x ∷ xs)) λ y. give-gives (xs ++ y ∷ [], refl)

  each_first : (f : List A → Reader A) (n i : ℕ) (x : A) (xs : List A)
      → Gives (λ ys. (zs : List A) × (ys ≡ x ∷ zs)) (counted i n (more f) (x ∷ xs))
  each_first f n i x xs =
      counted-gives (λ i ys. (zs : List A) × (ys ≡ x ∷ zs)) {f = more f}
      (λ i ys z. then_gives (f ys) λ y. give-gives (z.0 ++ y ∷ [], ap (λ (l : List A). l ++ y ∷ []) z.1)) i n (x ∷ xs) (xs, refl)

  each-rest : (f g : List A → Reader A) → ((x : A) (xs : List A) → g (x ∷ xs) ≡ f (x ∷ xs)) → (n i : ℕ) (x : A) (xs : List A)
      → Agree (counted i n (more f) (x ∷ xs)) (counted i n (more g) (x ∷ xs)) (λ ys. Unit)
  unfolding counted
  each-rest f g h zero i x xs = same-agree
  each-rest f g h (suc n) i x xs = record {
    law = λ s at end next ys e p.
        let w = split (more f i (x ∷ xs) s at end) (counted (i + 1) n (more f)) s end next ys e in
        let z = (more-first f i x xs).law s at end w.1 w.0 w.2 in
        let q : more g i (x ∷ xs) s at end ≡ got w.0 w.1 =
        ap (λ (r : Reader A). (r >>= λ y. give ((x ∷ xs) ++ y ∷ [])) s at end) (h x xs) ∙ w.2 in
        let u =
        (each-rest f g h n (i + 1) x z.0).law s w.1 end next ys
        (subst (λ (l : List A). counted (i + 1) n (more f) l s w.1 end ≡ got ys next) z.1 w.3) tt in
        rw q (subst (λ (l : List A). counted (i + 1) n (more g) l s w.1 end ≡ got ys next) (sym z.1) u);
  }

  -- readings that differ only in the first
  pub first-agree : (f g : List A → Reader A) {Q : A → Type 0} → Agree (f []) (g []) Q → ((x : A) (xs : List A) → g (x ∷ xs) ≡ f (x ∷ xs))
      → (n : ℕ) → Agree (listed n f) (listed n g) (λ ys. (x : A) (zs : List A) → ys ≡ x ∷ zs → Q x)
  unfolding listed counted
  first-agree f g l h zero = same-agree
  first-agree f g {Q} l h (suc n) = record {
    law = λ s at end next ys e p.
        let w = split (more f 0 [] s at end) (counted (0 + 1) n (more f)) s end next ys e in
        let v = split (f [] s at end) (λ (x : A). give ([] ++ x ∷ [])) s end w.1 w.0 w.2 in
        let a : v.0 ∷ [] ≡ w.0 = same-value v.3 in
        let k = subst (λ (l : List A). counted (0 + 1) n (more f) l s w.1 end ≡ got ys next) (sym a) w.3 in
        let z = (each_first f n (0 + 1) v.0 []).law s w.1 end next ys k in
        let b = l.law s at end v.1 v.0 v.2 (p v.0 z.0 z.1) in
        let c : more g 0 [] s at end ≡ got w.0 w.1 = more-got g 0 [] v.0 s at end v.1 b ∙ v.3 in
        let u = (each-rest f g h n (0 + 1) v.0 []).law s w.1 end next ys k tt in
        rw c (subst (λ (l : List A). counted (0 + 1) n (more g) l s w.1 end ≡ got ys next) a u);
  }
