-- Readers that take and look at no more than so many bits. Proved of each primitive, and kept by the ways of putting readers together.
-- The bits are a count that runs on through a reading: so many before it, so many, by the value, after it, and never more than all of it;
-- where the rest of it is there, the end does not count.
-- Assumes nothing.
use Prim.Native.Nat.{ℕ, zero, suc, ◌+◌, ◌-◌, ◌*◌, ◌<◌, ◌≤◌, min}
use mathlib.Core.Path.{◌≡◌, refl, sym, subst, ◌∙◌, ap}
use mathlib.Core.List.{List, []}
use mathlib.Core.Bool.{Bool, true, false}
use native.Mathlib.Omega.{arith}
use native.Mathlib.Decide.{dec_le}
use native.Mathlib.Nat.{add-zero, add-mul, one-mul, mul-le-mul_right}
use borrow.Author.Tests.{le-leb, lt-leb}
use lib.ListN.{length}
use Rattle.bits.specs.Reader.{Answer, got, refused, Reader, give, refuse, after, ◌>>=◌, pick, expecting}
use Rattle.bits.specs.Field.{field, zero_bit}
use Rattle.bits.specs.Loop.{counted, listed, turns, while}
use Rattle.bits.specs.Places.{one_field, here, placed}
use Rattle.bits.specs.Inside.{inside}
use Rattle.bits.specs.Payload.{ended, whole}
use Rattle.bits.proofs.Lawful.{Lawful, never, same-value, split, tested-got}
use Rattle.bits.proofs.PayloadLaws.{placed-inside}
use Rattle.bits.proofs.FieldLaws.{is_field, field-taken}
use Rattle.bits.proofs.PlacesLaws.{placed-got}
use Rattle.bits.proofs.InsideLaws.{Filling, inside-got, inside-there}
use Rattle.bits.proofs.WhileLaws.{Takes, turns-enough}
use Rattle.bits.proofs.Gives.{Gives}

-- the bits that are taken bring a count from a number before to no more than a number after, which goes by the value; and where the bits
-- that bring it to all of it are there, the end does not count
pub record Costs {A : Type 0} (all before : ℕ) (after : A → ℕ) (r : Reader A) : Type 0 where
  pub law : (s : List ℕ) (at end next : ℕ) (a : A) → r s at end ≡ got a next → next + before ≤ at + after a
  pub same : (s : List ℕ) (at end end' : ℕ) → at + all ≤ end + before → at + all ≤ end' + before → r s at end ≡ r s at end'

-- no more than n bits are taken and looked at
abbrev pub Near : {A : Type 0} → ℕ → Reader A → Type 0
Near n r = Costs n 0 (λ a. n) r

-- another count, of which as much is left at least, and which grows by as much at least
pub so_costs : {A : Type 0} {all all' m n : ℕ} {f g : A → ℕ} {r : Reader A} → all + n ≤ all' + m → ((a : A) → n + f a ≤ m + g a)
    → Costs all m f r → Costs all' n g r
so_costs l h c = record {
  law = λ s at end next a e. let w = c.law s at end next a e in let l = h a in omega arith;
  same = λ s at end end' p q. c.same s at end end' (omega arith) (omega arith);
}

-- the same, from any count on
pub on_costs : {A : Type 0} {all m n : ℕ} {r : Reader A} → m + n ≤ all → Near n r → Costs all m (λ a. m + n) r
on_costs h c = so_costs (omega arith) (λ a. omega arith) c

pub give-costs : {A : Type 0} {all m : ℕ} {f : A → ℕ} {a : A} → m ≤ f a → Costs all m f (give a)
give-costs {m = m} {f = f} h = record {
  law = λ s at end next b e.
      let l : m ≤ f b = subst (λ b. m ≤ f b) (same-value e) h in
      let q : at ≡ next = cc in
      omega arith;
  same = λ s at end end' p q. refl;
}

pub refuse-costs : {A : Type 0} {all m : ℕ} {f : A → ℕ} (n : ℕ) → Costs all m f (refuse n)
refuse-costs n = record { law = λ s at end next a e. never e; same = λ s at end end' p q. refl }

pub here-costs : {all m : ℕ} → Costs all m (λ a. m) here
unfolding here
here-costs = record { law = λ s at end next a e. let q : at ≡ next = cc in omega arith; same = λ s at end end' p q. refl }

pub field-costs : {all m : ℕ} (n : ℕ) → m + n ≤ all → Costs all m (λ v. m + n) (field n)
field-costs n h = record {
  law = λ s at end next a e. let w = field-taken n s at end next a e in omega arith;
  same = λ s at end end' p q. sym (is_field n s at end (omega arith) refl) ∙ is_field n s at end' (omega arith) refl;
}

pub expecting-costs : {A : Type 0} {all m : ℕ} {f : A → ℕ} (n : ℕ) (ok : A → Bool) {r : Reader A} → Costs all m f r
    → Costs all m f (expecting n ok r)
expecting-costs n ok {r} c = record {
  law = λ s at end next a e. c.law s at end next a (tested-got (r s at end) n ok at next a e).0;
  same = λ s at end end' p q. rw (c.same s at end end' p q);
}

pub zero_bit-costs : {all m : ℕ} (n : ℕ) → m + 1 ≤ all → Costs all m (λ v. m + 1) (zero_bit n)
unfolding zero_bit
zero_bit-costs n h = expecting-costs n _ (field-costs 1 h)

pub one_field-costs : {A : Type 0} {all m : ℕ} {f : A → ℕ} {r : Reader A} → Costs all m f r → Costs all m f (one_field r)
unfolding one_field
one_field-costs {A = A} {r = r} c = record {
  law = λ s at end next a e. c.law s at end next a (placed-got (r s at end) at next a e);
  same = λ s at end end' p q. ap (λ (x : Answer A). placed x at) (c.same s at end end' p q);
}

pub pick-costs : {A : Type 0} {all m : ℕ} {f : A → ℕ} (b : Bool) {r q : Reader A} → (b ≡ true → Costs all m f r)
    → (b ≡ false → Costs all m f q) → Costs all m f (pick b r q)
pick-costs true c d = c refl
pick-costs false c d = d refl

pub inside-near : {A : Type 0} (n short : ℕ) (r : Reader A) → Filling r → Near n (inside n short r)
inside-near n short r f = record {
  law = λ s at end next a e.
      let w = inside-got n short r s at end next a e in
      let q = f.full s at (at + n) next a (omega arith) w.1 in
      omega arith;
  same = λ s at end end' p q. inside-there n short r s at end (omega arith) ∙ sym (inside-there n short r s at end' (omega arith));
}

-- one after another, with what is known of the first one's value
module _ {A B : Type 0} {all m : ℕ} {f : A → ℕ} {g : B → ℕ} (P : A → Type 0) {r : Reader A} {k : A → Reader B} (p : Gives P r)
    (c : Costs all m f r) (d : (a : A) → P a → Costs all (f a) g (k a)) where
  bind-same : (s : List ℕ) (at end end' : ℕ) → at + all ≤ end + m → at + all ≤ end' + m → (x : Answer A) → r s at end ≡ x
      → (r >>= k) s at end ≡ (r >>= k) s at end'
  bind-same s at end end' h l (got a b) e =
      let q : r s at end' ≡ got a b = c.same s at end' end l h ∙ e in
      let o = c.law s at end b a e in
      ap (λ (x : Answer A). after x k s end) e ∙ (d a (p.law s at end b a e)).same s b end end' (omega arith) (omega arith)
      ∙ sym (ap (λ (x : Answer A). after x k s end') q)
  bind-same s at end end' h l (refused n place) e =
      let q : r s at end' ≡ refused n place = c.same s at end' end l h ∙ e in
      ap (λ (x : Answer A). after x k s end) e ∙ sym (ap (λ (x : Answer A). after x k s end') q)

  pub known-costs : Costs all m g (r >>= k)
  known-costs = record {
    law = λ s at end next b e.
        let w = split (r s at end) k s end next b e in
        let u = c.law s at end w.1 w.0 w.2 in
        let v = (d w.0 (p.law s at end w.1 w.0 w.2)).law s w.1 end next b w.3 in
        omega arith;
    same = λ s at end end' h l. bind-same s at end end' h l (r s at end) refl;
  }

pub bind_costs : {A B : Type 0} {all m : ℕ} {f : A → ℕ} {g : B → ℕ} {r : Reader A} {k : A → Reader B} → Costs all m f r
    → ((a : A) → Costs all (f a) g (k a)) → Costs all m g (r >>= k)
bind_costs c d = known-costs (λ a. Unit {0}) (record { law = λ s at end next a e. tt }) c (λ a p. d a)

-- a loop whose turns lie before turn k, by the count before each turn
pub counted-costs : {S : Type 0} {all : ℕ} (c : ℕ → ℕ) (k : ℕ) {f : ℕ → S → Reader S}
    → ((i : ℕ) → i < k → (x : S) → Costs all (c i) (λ y. c (i + 1)) (f i x)) → (i n : ℕ) → i + n ≤ k → (x : S)
    → Costs all (c i) (λ y. c (i + n)) (counted i n f x)
unfolding counted
counted-costs c k h i zero l x = give-costs (rw add-zero (omega arith))
counted-costs {all = all} c k h i (suc n) l x =
    bind_costs (h i (omega arith) x) λ y.
    let q : i + 1 + n ≡ i + suc n = omega arith in
    so_costs {all = all} {all' = all} (omega arith) (λ z. rw q (omega arith)) (counted-costs c k h (i + 1) n (omega arith) y)

-- n turns of at most k bits each
pub each-costs : {S : Type 0} {all m : ℕ} (k : ℕ) {f : ℕ → S → Reader S} → ((i : ℕ) (x : S) → Near k (f i x)) → (i n : ℕ) → m + n * k ≤ all
    → (x : S) → Costs all m (λ y. m + n * k) (counted i n f x)
each-costs k h i n l x =
    so_costs {all = (i + n) * k} (omega (arith, add-mul i n k)) (λ y. omega (arith, add-mul i n k))
    (counted-costs (λ j. j * k) (i + n)
    (λ j g y. so_costs (omega (arith, add-mul j 1 k, one-mul k, mul-le-mul_right {m = j + 1} {n = i + n} k (omega arith)))
    (λ z. omega (arith, add-mul j 1 k, one-mul k)) (h j y)) i n (omega arith) x)

-- n readings in a list, n no more than so many, of at most k bits each
pub listed-near : {A : Type 0} (k : ℕ) {f : List A → Reader A} → ((xs : List A) → Near k (f xs)) → (n most : ℕ) → n ≤ most
    → Near (most * k) (listed n f)
unfolding listed
listed-near k h n most l =
    let w = mul-le-mul_right {m = n} {n = most} k l in
    so_costs {all = most * k} (omega arith) (λ a. omega arith)
    (each-costs {m = 0} k (λ i xs. bind_costs (h xs) λ x. give-costs (omega arith)) 0 n (omega arith) [])

-- a loop that goes on while a test holds, by a count of the state; the first turn may come from another count
module _ {S : Type 0} {all : ℕ} (c : S → ℕ) {on : S → Bool} {f : S → Reader S} (t : (x : S) → Takes (f x))
    (h : (x : S) → on x ≡ true → Costs all (c x) c (f x)) where
  turns-costs : (n : ℕ) (x : S) → Costs all (c x) c (turns n on f x)
  unfolding turns
  turns-costs zero x = give-costs (omega arith)
  turns-costs (suc n) x =
      pick-costs (on x) (λ e. bind_costs (h x e) (turns-costs n)) (λ e. give-costs (omega arith))

  first-costs : {m : ℕ} (n : ℕ) (x : S) → (on x ≡ true → Costs all m c (f x)) → (on x ≡ false → m ≤ c x)
      → Costs all m c (turns (suc n) on f x)
  unfolding turns
  first-costs n x g l = pick-costs (on x) (λ e. bind_costs (g e) (turns-costs n)) (λ e. give-costs (l e))

  pub while-costs : {m : ℕ} (x : S) → (on x ≡ true → Costs all m c (f x)) → (on x ≡ false → m ≤ c x) → Costs all m c (while on f x)
  unfolding while
  while-costs x g l = record {
    law = λ s at end next a e. (first-costs (end - at) x g l).law s at end next a e;
    same = λ s at end end' p q.
        let n : ℕ = end - at + (end' - at) in
        turns-enough on f t (suc (end - at)) (suc n) x s at end (omega arith) (omega arith) ∙ (first-costs n x g l).same s at end end' p q
        ∙ turns-enough on f t (suc n) (suc (end' - at)) x s at end' (omega arith) (omega arith);
  }

-- a whole payload of no more than k bytes, read with one byte more in view
module _ {A : Type 0} (k : ℕ) (r : Reader A) (c : Near (8 * k) r) (s : List ℕ) where
  -- past it more than 7 bits are left
  far-end : (a : A) (next end : ℕ) → next ≤ 8 * k → 8 * (k + 1) ≤ end → ended a s next end ≡ refused 12 next
  unfolding ended
  far-end a next end h l = rw (lt-leb (end - next) 7 (omega arith))

  far : (end end' : ℕ) → 8 * (k + 1) ≤ end → 8 * (k + 1) ≤ end' → (x : Answer A) → r s 0 end ≡ x
      → (r >>= ended) s 0 end ≡ (r >>= ended) s 0 end'
  far end end' h l (got a next) e =
      let q : r s 0 end' ≡ got a next = c.same s 0 end' end (omega arith) (omega arith) ∙ e in
      let w = c.law s 0 end next a e in
      ap (λ (x : Answer A). after x ended s end) e ∙ far-end a next end (omega arith) h ∙ sym (far-end a next end' (omega arith) l)
      ∙ sym (ap (λ (x : Answer A). after x ended s end') q)
  far end end' h l (refused n p) e =
      let q : r s 0 end' ≡ refused n p = c.same s 0 end' end (omega arith) (omega arith) ∙ e in
      ap (λ (x : Answer A). after x ended s end) e ∙ sym (ap (λ (x : Answer A). after x ended s end') q)

  abbrev view : ℕ
  view = 8 * min (length s) (k + 1)

  whole-near : (r >>= ended) s 0 view ≡ whole r s
  unfolding whole
  whole-near =
      elim (dec_le (k + 1) (length s)) [
        | yes d ↦ far view (8 * length s) (omega arith) (omega arith) (r s 0 view) refl
        | no d ↦ let e : min (length s) (k + 1) ≡ length s = omega arith in ap (λ (n : ℕ). (r >>= ended) s 0 (8 * n)) e
      ]

  -- the place of a refusal is in view
  pub near-placed : Lawful r → {n place : ℕ} → whole r s ≡ refused n place → place ≤ 8 * (k + 1)
  near-placed g {n} {place} e = let l = placed-inside r g s view n place (whole-near ∙ e) in omega arith

  -- accepted; more than 7 bits left; refused
  pub near-got : {a : A} {next : ℕ} → r s 0 (8 * min (length s) (k + 1)) ≡ got a next → 8 * min (length s) (k + 1) - next ≤ 7
      → whole r s ≡ got a next
  unfolding ended
  near-got e h = sym whole-near ∙ rw (e, le-leb _ _ h)

  pub near-left : {a : A} {next : ℕ} → r s 0 (8 * min (length s) (k + 1)) ≡ got a next → 7 < 8 * min (length s) (k + 1) - next
      → whole r s ≡ refused 12 next
  unfolding ended
  near-left e h = sym whole-near ∙ rw (e, lt-leb _ _ h)

  pub near-refused : {n place : ℕ} → r s 0 (8 * min (length s) (k + 1)) ≡ refused n place → whole r s ≡ refused n place
  near-refused e = sym whole-near ∙ rw e
