-- Loops that go on while a test of the state holds: more turns than there are bits change nothing, so that the loops keep the reading
-- laws; and what a loop of the code cites.
-- Assumes nothing.
use Prim.Native.Nat.{ℕ, zero, suc, ◌+◌, ◌-◌, ◌<◌, ◌≤◌}
use mathlib.Core.Path.{◌≡◌, refl, ◌∙◌}
use mathlib.Core.List.{List}
use mathlib.Core.Bool.{Bool, true, false}
use native.Mathlib.Omega.{arith}
use Rattle.bits.specs.Reader.{Answer, got, refused, Reader, give, ◌>>=◌, pick, expecting}
use Rattle.bits.specs.Field.{field}
use Rattle.bits.specs.Loop.{turns, while}
use Rattle.bits.proofs.Lawful.{Lawful, split, tested-got, bind_lawful, give-lawful, pick-lawful}
use Rattle.bits.proofs.FieldLaws.{field-taken}

-- what a reader accepts takes a bit at least, and lies before the end
pub record Takes {A : Type 0} (r : Reader A) : Type 0 where
  pub law : (s : List ℕ) (at end next : ℕ) (a : A) → r s at end ≡ got a next → (at < next) × (next ≤ end)

pub field-takes : (n : ℕ) → 0 < n → Takes (field n)
field-takes n h = record { law = λ s at end next a e. let w = field-taken n s at end next a e in omega arith }

pub expecting-takes : {A : Type 0} (n : ℕ) (ok : A → Bool) (r : Reader A) → Takes r → Takes (expecting n ok r)
expecting-takes n ok r t = record { law = λ s at end next a e. t.law s at end next a (tested-got (r s at end) n ok at next a e).0 }

pub bind_takes : {A B : Type 0} (r : Reader A) (k : A → Reader B) → Takes r → ((a : A) → Lawful (k a)) → Takes (r >>= k)
bind_takes r k t g = record {
  law = λ s at end next b e.
      let w = split (r s at end) k s end next b e in
      let u = t.law s at end w.1 w.0 w.2 in
      let v = (g w.0).accepts.within s w.1 end next b u.1 w.3 in
      omega arith;
}

module _ {S : Type 0} (on : S → Bool) (f : S → Reader S) where
  turns-lawful : ((x : S) → Lawful (f x)) → (n : ℕ) (x : S) → Lawful (turns n on f x)
  unfolding turns
  turns-lawful g zero x = give-lawful x
  turns-lawful g (suc n) x = pick-lawful (on x) (bind_lawful (f x) (turns n on f) (g x) (turns-lawful g n)) (give-lawful x)

  -- any two numbers of turns that are above the number of bits do the same
  pub turns-enough : ((x : S) → Takes (f x)) → (m n : ℕ) (x : S) (s : List ℕ) (at end : ℕ) → end - at < m → end - at < n
      → turns m on f x s at end ≡ turns n on f x s at end
  unfolding turns
  turns-enough t zero n x s at end h g = absurd (omega arith)
  turns-enough t (suc m) zero x s at end h g = absurd (omega arith)
  turns-enough t (suc m) (suc n) x s at end h g = go (turns-enough t m n) (on x) (f x s at end) refl
    where
      Same : ℕ → ℕ → Type 0
      Same m n = (x : S) (s : List ℕ) (at end : ℕ) → end - at < m → end - at < n → turns m on f x s at end ≡ turns n on f x s at end

      go : Same m n → (b : Bool) (y : Answer S) → f x s at end ≡ y
          → pick b (f x >>= turns m on f) (give x) s at end ≡ pick b (f x >>= turns n on f) (give x) s at end
      go same false y e = refl
      go same true (got z next) e = let w = (t x).law s at end next z e in rw e (same z s next end (omega arith) (omega arith))
      go same true (refused r p) e = rw e

  module _ (t : (x : S) → Takes (f x)) where
    pub while-lawful : ((x : S) → Lawful (f x)) → (x : S) → Lawful (while on f x)
    unfolding while
    while-lawful g x = record {
      accepts = record {
        within = λ s at end next a h e. (turns-lawful g _ x).accepts.within s at end next a h e;
        local = λ s s' at end h q. (turns-lawful g _ x).accepts.local s s' at end h q;
        stable = λ s at end next end' a h e l.
            let n : ℕ = suc (end - at) + suc (end' - at) in
            let long = turns-enough t n (suc (end - at)) x s at end (omega arith) (omega arith) in
            turns-enough t (suc (end' - at)) n x s at end' (omega arith) (omega arith)
            ∙ (turns-lawful g n x).accepts.stable s at end next end' a h (long ∙ e) l;
        cut = λ s at end next end' a h e l o.
            let n : ℕ = suc (end - at) + suc (end' - at) in
            let long = turns-enough t n (suc (end - at)) x s at end (omega arith) (omega arith) in
            let y = (turns-lawful g n x).accepts.cut s at end next end' a h (long ∙ e) l o in
            (y.0, turns-enough t (suc (end' - at)) n x s at end' (omega arith) (omega arith) ∙ y.1);
      };
      placed = λ s at end n p h e. (turns-lawful g _ x).placed s at end n p h e;
    }

    pub while-more : (x y : S) (s : List ℕ) (at end m : ℕ) → on x ≡ true → f x s at end ≡ got y m
        → while on f x s at end ≡ while on f y s m end
    unfolding while turns
    while-more x y s at end m o e =
        let w = (t x).law s at end m y e in
        rw (o, e) (turns-enough t (end - at) (suc (end - m)) y s m end (omega arith) (omega arith))

  pub while-stop : (x : S) (s : List ℕ) (at end r p : ℕ) → on x ≡ true → f x s at end ≡ refused r p → while on f x s at end ≡ refused r p
  unfolding while turns
  while-stop x s at end r p o e = rw (o, e)

  pub while-done : (x : S) (s : List ℕ) (at end : ℕ) → on x ≡ false → while on f x s at end ≡ got x at
  unfolding while turns
  while-done x s at end o = rw o
