-- What is accepted at one place is accepted wherever its bits stand: the same value, and as many bits on. Proved of each primitive, and
-- kept by the ways of putting readers together. Of a value that holds its own place the law says what stays the same, as a relation.
-- Assumes nothing.
use Prim.Native.Nat.{ℕ, zero, suc, ◌+◌, ◌-◌, ◌<◌, ◌≤◌}
use mathlib.Core.Path.{◌≡◌, refl, sym, ◌∙◌, ap, subst}
use mathlib.Core.List.{List}
use mathlib.Core.Bool.{Bool, true, false}
use native.Mathlib.Omega.{arith}
use Rattle.bits.specs.Bits.{bit_at, bits_from}
use Rattle.bits.specs.Reader.{got, Reader, give, refuse, ◌>>=◌, pick, expecting}
use Rattle.bits.specs.Field.{field, zero_bit}
use Rattle.bits.specs.Loop.{counted, turns, while}
use Rattle.bits.specs.Places.{one_field, here}
use Rattle.bits.proofs.Lawful.{never, same-value, split, tested-got}
use Rattle.bits.proofs.FieldLaws.{is_field, field-taken}
use Rattle.bits.proofs.PlacesLaws.{placed-got}
use Rattle.bits.proofs.WhileLaws.{Takes, turns-enough}

-- the n bits of a list from a place on are those of another from another place on
abbrev pub Alike : List ℕ → ℕ → List ℕ → ℕ → ℕ → Type 0
Alike s at t at' n = (i : ℕ) → i < n → bit_at s (at + i) ≡ bit_at t (at' + i)

pub alike-bits : (s : List ℕ) (at : ℕ) (t : List ℕ) (at' n : ℕ) → Alike s at t at' n → bits_from s at n ≡ bits_from t at' n
unfolding bits_from
alike-bits s at t at' zero q = refl
alike-bits s at t at' (suc n) q =
    let e : bits_from s at n ≡ bits_from t at' n = alike-bits s at t at' n (λ i l. q i (omega arith)) in
    let b : bit_at s (at + n) ≡ bit_at t (at' + n) = q n (omega arith) in
    cc

-- what one reader accepts another accepts where the bits stand, with a value that is related to the first one's
pub record Moved {A : Type 0} (R : A → A → Type 0) (r q : Reader A) : Type 0 where
  pub onward : (s : List ℕ) (at end next : ℕ) (a : A) → r s at end ≡ got a next → at ≤ next
  pub law : (s : List ℕ) (at end next : ℕ) (a : A) → r s at end ≡ got a next → (t : List ℕ) (at' end' next' : ℕ)
      → next' + at ≡ next + at' → next' ≤ end' → Alike s at t at' (next - at) → (b : A) × R a b × (q t at' end' ≡ got b next')

abbrev pub Moves : {A : Type 0} → Reader A → Type 0
Moves r = Moved ◌≡◌ r r

-- the value is read wherever the bits from a place up to the next stand
abbrev pub Everywhere : {A : Type 0} → Reader A → A → List ℕ → ℕ → ℕ → Type 0
Everywhere r a s at next =
    (t : List ℕ) (at' end' next' : ℕ) → next' + at ≡ next + at' → next' ≤ end' → Alike s at t at' (next - at) → r t at' end' ≡ got a next'

pub same-moves : {A : Type 0} {r : Reader A}
    → ((s : List ℕ) (at end next : ℕ) (a : A) → r s at end ≡ got a next → (at ≤ next) × Everywhere r a s at next) → Moves r
same-moves f = record {
  onward = λ s at end next a e. (f s at end next a e).0;
  law = λ s at end next a e t at' end' next' d h q. (a, refl, (f s at end next a e).1 t at' end' next' d h q);
}

pub moves-same : {A : Type 0} {r : Reader A} → Moves r → (s : List ℕ) (at end next : ℕ) (a : A) → r s at end ≡ got a next
    → Everywhere r a s at next
moves-same g s at end next a e t at' end' next' d h q =
    let w = g.law s at end next a e t at' end' next' d h q in
    w.2 ∙ ap (λ (b : _). got b next') (sym w.1)

-- nothing is read
pub still_moved : {A : Type 0} {R : A → A → Type 0} {r q : Reader A}
    → ((s : List ℕ) (at end next : ℕ) (a : A) → r s at end ≡ got a next
    → (next ≡ at) × ((t : List ℕ) (at' end' : ℕ) → (b : A) × R a b × (q t at' end' ≡ got b at')))
    → Moved R r q
still_moved f = record {
  onward = λ s at end next a e. let w = (f s at end next a e).0 in omega arith;
  law = λ s at end next a e t at' end' next' d h q.
      let w = f s at end next a e in
      let p : next' ≡ at' = let z = w.0 in omega arith in
      rw p (w.1 t at' end');
}

pub give-moved : {A : Type 0} {R : A → A → Type 0} {a b : A} → R a b → Moved R (give a) (give b)
give-moved {R = R} {b = b} o =
    still_moved λ s at end next c e. ((let q : at ≡ next = cc in sym q), λ t at' end'. (b, subst (λ z. R z b) (same-value e) o, refl))

pub give-moves : {A : Type 0} (a : A) → Moves (give a)
give-moves a = give-moved refl

pub here-moved : Moved (λ a b. Unit {0}) here here
unfolding here
here-moved = still_moved λ s at end next a e. ((let q : at ≡ next = cc in sym q), λ t at' end'. (at', tt, refl))

pub refuse-moves : {A : Type 0} (n : ℕ) → Moves {A = A} (refuse n)
refuse-moves n = same-moves λ s at end next a e. never e

pub field-moves : (n : ℕ) → Moves (field n)
field-moves n =
    same-moves λ s at end next a e.
    let w = field-taken n s at end next a e in (
      omega arith,
      λ t at' end' next' d h q.
          let b = alike-bits s at t at' n (λ i l. q i (omega arith)) in
          sym (is_field n t at' end' (omega arith) (w.1 ∙ b)) ∙ ap (got a) (omega arith),
    )

pub expecting-moves : {A : Type 0} (n : ℕ) (ok : A → Bool) (r : Reader A) → Moves r → Moves (expecting n ok r)
expecting-moves n ok r g =
    same-moves λ s at end next a e.
    let w = tested-got (r s at end) n ok at next a e in (
      g.onward s at end next a w.0,
      λ t at' end' next' d h q.
          rw (moves-same g s at end next a w.0 t at' end' next' d h q, w.1),
    )

pub zero_bit-moves : (n : ℕ) → Moves (zero_bit n)
unfolding zero_bit
zero_bit-moves n = expecting-moves n _ _ (field-moves 1)

pub one_field-moves : {A : Type 0} (r : Reader A) → Moves r → Moves (one_field r)
unfolding one_field
one_field-moves r g =
    same-moves λ s at end next a e.
    let w = placed-got (r s at end) at next a e in
    (g.onward s at end next a w, λ t at' end' next' d h q. rw (moves-same g s at end next a w t at' end' next' d h q))

pub pick-moved : {A : Type 0} {R : A → A → Type 0} (b : Bool) {r q r' q' : Reader A} → Moved R r r' → Moved R q q'
    → Moved R (pick b r q) (pick b r' q')
pick-moved true g h = g
pick-moved false g h = h

-- one after another: the second goes on from values that are related
pub bind_moved : {A B : Type 0} {R : A → A → Type 0} {S : B → B → Type 0} {r q : Reader A} {k l : A → Reader B}
    → ((a : A) → R a a) → Moved R r q → ((a b : A) → R a b → Moved S (k a) (l b)) → Moved S (r >>= k) (q >>= l)
bind_moved {B = B} {S = S} {r = r} {q = q} {k = k} {l = l} own g f = record {
  onward = λ s at end next c e.
      let w = split (r s at end) k s end next c e in
      let u = g.onward s at end w.1 w.0 w.2 in
      let v = (f w.0 w.0 (own w.0)).onward s w.1 end next c w.3 in
      omega arith;
  law = λ s at end next c e t at' end' next' d h p.
      let w = split (r s at end) k s end next c e in
      let u = g.onward s at end w.1 w.0 w.2 in
      let v = (f w.0 w.0 (own w.0)).onward s w.1 end next c w.3 in
      let m = at' + (w.1 - at) in
      let x = g.law s at end w.1 w.0 w.2 t at' end' m (omega arith) (omega arith) (λ i o. p i (omega arith)) in
      let y = (f w.0 x.0 x.1).law s w.1 end next c w.3 t m end' next' (omega arith) h (λ i o.
      ap (bit_at s) (omega arith) ∙ p (w.1 - at + i) (omega arith) ∙ ap (bit_at t) (omega arith)) in
      (y.0, y.1, rw x.2 y.2);
}

-- the second goes on from a value that is the same
pub then_moved : {A B : Type 0} {S : B → B → Type 0} {r q : Reader A} {k l : A → Reader B} → Moved ◌≡◌ r q
    → ((a : A) → Moved S (k a) (l a)) → Moved S (r >>= k) (q >>= l)
then_moved {S = S} {k = k} {l = l} g f = bind_moved (λ a. refl) g (λ a b e. subst (λ c. Moved S (k a) (l c)) e (f a))

pub bind_moves : {A B : Type 0} (r : Reader A) (k : A → Reader B) → Moves r → ((a : A) → Moves (k a)) → Moves (r >>= k)
bind_moves r k g f = then_moved g f

-- a loop, each turn of which keeps what is related
pub counted-moved : {S : Type 0} (R : S → S → Type 0) {f g : ℕ → S → Reader S} → ((x : S) → R x x)
    → ((i : ℕ) (x y : S) → R x y → Moved R (f i x) (g i y)) → (i n : ℕ) (x y : S) → R x y → Moved R (counted i n f x) (counted i n g y)
unfolding counted
counted-moved R own h i zero x y o = give-moved o
counted-moved R own h i (suc n) x y o = bind_moved own (h i x y o) (counted-moved R own h (i + 1) n)

pub counted-moves : {S : Type 0} (f : ℕ → S → Reader S) → ((i : ℕ) (x : S) → Moves (f i x)) → (i n : ℕ) (x : S) → Moves (counted i n f x)
counted-moves f h i n x =
    counted-moved ◌≡◌ (λ x. refl) (λ i x y e. subst (λ y. Moved ◌≡◌ (f i x) (f i y)) e (h i x)) i n x x refl

module _ {S : Type 0} (on : S → Bool) (f : S → Reader S) where
  turns-moves : ((x : S) → Moves (f x)) → (n : ℕ) (x : S) → Moves (turns n on f x)
  unfolding turns
  turns-moves g zero x = give-moves x
  turns-moves g (suc n) x = pick-moved (on x) (bind_moves (f x) (turns n on f) (g x) (turns-moves g n)) (give-moves x)

  -- more turns than there are bits in either place change nothing
  pub while-moves : ((x : S) → Takes (f x)) → ((x : S) → Moves (f x)) → (x : S) → Moves (while on f x)
  unfolding while
  while-moves t g x =
      same-moves λ s at end next a e. (
        (turns-moves g _ x).onward s at end next a e,
        λ u at' end' next' d h q.
            let n = suc (end - at) + suc (end' - at') in
            let long = turns-enough on f t n (suc (end - at)) x s at end (omega arith) (omega arith) in
            turns-enough on f t (suc (end' - at')) n x u at' end' (omega arith) (omega arith)
            ∙ moves-same (turns-moves g n x) s at end next a (long ∙ e) u at' end' next' d h q,
      )
