-- Everything that a reader gives has a property. Proved of each primitive, and kept by the ways of putting readers together.
-- Assumes nothing.
use Prim.Native.Nat.{ℕ, zero, suc, ◌+◌, ◌<◌, ◌^◌}
use mathlib.Core.Path.{◌≡◌, refl, ◌∙◌, subst}
use mathlib.Core.List.{List, [], ◌∷◌, ◌++◌}
use mathlib.Core.Bool.{Bool, true, false}
use native.Mathlib.Omega.{arith}
use native.Mathlib.Nat.{add-zero, zero-add}
use lib.ListN.{length, length-append}
use Rattle.bits.specs.Reader.{got, Reader, give, ◌>>=◌, pick, expecting}
use Rattle.bits.specs.Field.{field}
use Rattle.bits.specs.Loop.{counted, more, listed, turns, while}
use Rattle.bits.specs.Inside.{inside}
use Rattle.bits.proofs.Lawful.{same-value, split, tested-got}
use Rattle.bits.proofs.Taken.{field_below}
use Rattle.bits.proofs.InsideLaws.{inside-got}
use Rattle.bits.proofs.Spelt.{Every, every_append}

pub record Gives {A : Type 0} (P : A → Type 0) (r : Reader A) : Type 0 where
  pub law : (s : List ℕ) (at end next : ℕ) (a : A) → r s at end ≡ got a next → P a

-- what follows from the property holds too
pub so_gives : {A : Type 0} {P Q : A → Type 0} {r : Reader A} → ((a : A) → P a → Q a) → Gives P r → Gives Q r
so_gives f g = record { law = λ s at end next a e. f a (g.law s at end next a e) }

pub give-gives : {A : Type 0} {P : A → Type 0} {a : A} → P a → Gives P (give a)
give-gives {P = P} p = record { law = λ s at end next b e. subst P (same-value e) p }

pub bind_gives : {A B : Type 0} {P : A → Type 0} {Q : B → Type 0} {r : Reader A} {k : A → Reader B} → Gives P r
    → ((a : A) → P a → Gives Q (k a)) → Gives Q (r >>= k)
bind_gives {r = r} {k = k} g f = record {
  law = λ s at end next b e.
      let w = split (r s at end) k s end next b e in
      (f w.0 (g.law s at end w.1 w.0 w.2)).law s w.1 end next b w.3;
}

-- one after another, where nothing is known of the first
pub then_gives : {A B : Type 0} {Q : B → Type 0} (r : Reader A) {k : A → Reader B} → ((a : A) → Gives Q (k a)) → Gives Q (r >>= k)
then_gives r f = bind_gives {P = λ a. Unit {0}} {r = r} (record { law = λ s at end next a e. tt }) (λ a p. f a)

pub map_gives : {A B : Type 0} {P : A → Type 0} {Q : B → Type 0} {r : Reader A} (f : A → B) → Gives P r → ((a : A) → P a → Q (f a))
    → Gives Q (r >>= λ a. give (f a))
map_gives f g h = bind_gives g λ a p. give-gives (h a p)

pub pick_gives : {A : Type 0} {P : A → Type 0} (b : Bool) {r q : Reader A} → (b ≡ true → Gives P r) → (b ≡ false → Gives P q)
    → Gives P (pick b r q)
pick_gives true f g = f refl
pick_gives false f g = g refl

-- the test holds, and what was known stays
pub expecting-gives : {A : Type 0} (n : ℕ) (ok : A → Bool) (r : Reader A) → Gives (λ a. ok a ≡ true) (expecting n ok r)
expecting-gives n ok r = record { law = λ s at end next a e. (tested-got (r s at end) n ok at next a e).1 }

pub expecting_keeps : {A : Type 0} {P : A → Type 0} (n : ℕ) (ok : A → Bool) {r : Reader A} → Gives P r → Gives P (expecting n ok r)
expecting_keeps n ok {r} g = record { law = λ s at end next a e. g.law s at end next a (tested-got (r s at end) n ok at next a e).0 }

pub field-gives : (n : ℕ) → Gives (λ v. v < 2 ^ n) (field n)
field-gives n = record { law = λ s at end next v e. field_below n s at end v next e }

pub inside-gives : {A : Type 0} {P : A → Type 0} (n short : ℕ) (r : Reader A) → Gives P r → Gives P (inside n short r)
inside-gives n short r g = record { law = λ s at end next a e. g.law s at (at + n) next a (inside-got n short r s at end next a e).1 }

-- a loop, each turn of which keeps what is known of the state; this goes by the turn
pub counted-gives : {S : Type 0} (P : ℕ → S → Type 0) {f : ℕ → S → Reader S} → ((i : ℕ) (x : S) → P i x → Gives (P (i + 1)) (f i x))
    → (i n : ℕ) (x : S) → P i x → Gives (P (i + n)) (counted i n f x)
unfolding counted
counted-gives P g i zero x p = give-gives {P = P (i + 0)} (rw add-zero p)
counted-gives P {f} g i (suc n) x p =
    let e : i + 1 + n ≡ i + suc n = omega arith in
    bind_gives {r = f i x} (g i x p) λ y q. so_gives (λ z o. subst (λ (k : ℕ). P k z) e o) (counted-gives P g (i + 1) n y q)

-- a loop that goes on while a test holds, each turn of which keeps the property
turns-gives : {S : Type 0} (P : S → Type 0) (on : S → Bool) {f : S → Reader S} → ((x : S) → P x → Gives P (f x))
    → (n : ℕ) (x : S) → P x → Gives P (turns n on f x)
unfolding turns
turns-gives P on g zero x p = give-gives {P = P} p
turns-gives P on {f} g (suc n) x p =
    pick_gives (on x) (λ t. bind_gives {r = f x} (g x p) λ y q. turns-gives P on g n y q) (λ t. give-gives {P = P} p)

pub while-gives : {S : Type 0} (P : S → Type 0) (on : S → Bool) {f : S → Reader S} → ((x : S) → P x → Gives P (f x))
    → (x : S) → P x → Gives P (while on f x)
unfolding while
while-gives P on g x p = record { law = λ s at end next a e. (turns-gives P on g _ x p).law s at end next a e }

-- so many readings, each with the property
pub listed-gives : {A : Type 0} (P : A → Type 0) (f : List A → Reader A) → ((xs : List A) → Gives P (f xs)) → (n : ℕ)
    → Gives (λ xs. (length xs ≡ n) × Every P xs) (listed n f)
unfolding listed
listed-gives {A} P f g n =
    so_gives (λ xs o. (o.0 ∙ zero-add n, o.1)) (counted-gives Known {f = more f}
    (λ i xs o. map_gives (λ x. xs ++ x ∷ []) (g xs) λ x p.
    (rw (length-append xs (x ∷ [])) (omega arith), every_append P xs (x ∷ []) o.1 (p, tt)))
    0 n [] (refl, tt))
  where
    Known : ℕ → List A → Type 0
    Known i xs = (length xs ≡ i) × Every P xs
