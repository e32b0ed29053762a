-- The reading laws (within, placed, local, stable, cut) of a reader, and that the ways of putting readers together keep them.
-- Assumes nothing.
use Prim.Native.Nat.{ℕ, ◌<◌, ◌≤◌}
use mathlib.Core.Path.{◌≡◌, refl, ◌∙◌, ap}
use mathlib.Core.List.{List}
use mathlib.Core.Bool.{Bool, true, false}
use native.Mathlib.Omega.{arith}
use native.Mathlib.Decide.{dec_le}
use Rattle.bits.specs.Reader.{Answer, got, refused, Reader, give, refuse, after, ◌>>=◌, pick, tested, expecting}
use Rattle.bits.proofs.BitLaws.{Same}

-- no accepted answer is a refusal
pub never : {A : Type 0} {B : Type 0} {a : A} {m n p : ℕ} → refused n p ≡ got a m → B
never e = let z : ◌≡◌ {A = ℕ} 0 1 = cc in absurd (omega arith)

-- a value that was given is no refusal
pub not-refused : {A X : Type 0} {a : A} {m n p : ℕ} → got a m ≡ refused n p → X
not-refused e = let z : ◌≡◌ {A = ℕ} 0 1 = cc in absurd (omega arith)

-- two accepted answers that are the same have the same value
pub same-value : {A : Type 0} {a b : A} {m n : ℕ} → got a m ≡ got b n → a ≡ b
same-value e = cc

-- an answer that is given on is the answer
pub after-give : {A : Type 0} (x : Answer A) (s : List ℕ) (end : ℕ) → after x give s end ≡ x
after-give (got a m) s end = refl
after-give (refused n p) s end = refl

-- what is right of what a reader accepts: it lies between its start and its end; only the bits there count; it stands wherever the end is,
-- unless that is before the next place, where the answer is refusal 10
pub record Accepting {A : Type 0} (r : Reader A) : Type 0 where
  pub within : (s : List ℕ) (at end next : ℕ) (a : A) → at ≤ end → r s at end ≡ got a next → (at ≤ next) × (next ≤ end)
  pub local : (s t : List ℕ) (at end : ℕ) → at ≤ end → Same s t at end → r s at end ≡ r t at end
  pub stable : (s : List ℕ) (at end next end' : ℕ) (a : A) → at ≤ end → r s at end ≡ got a next → next ≤ end' → r s at end' ≡ got a next
  pub cut : (s : List ℕ) (at end next end' : ℕ) (a : A) → at ≤ end → r s at end ≡ got a next → at ≤ end' → end' < next
      → (p : ℕ) × (r s at end' ≡ refused 10 p)

-- what is right of a reader: all this; and the place of a refusal is no further than the end
pub record Lawful {A : Type 0} (r : Reader A) : Type 0 where
  pub accepts : Accepting r
  pub placed : (s : List ℕ) (at end n p : ℕ) → at ≤ end → r s at end ≡ refused n p → p ≤ end

pub give-lawful : {A : Type 0} (a : A) → Lawful (give a)
give-lawful a = record {
  accepts = record {
    within = λ s at end next b h e. (let q : at ≡ next = cc in omega arith, let q : at ≡ next = cc in omega arith);
    local = λ s t at end h q. refl;
    stable = λ s at end next end' b h e l. e;
    cut = λ s at end next end' b h e l g. let q : at ≡ next = cc in absurd (omega arith);
  };
  placed = λ s at end n p h e. not-refused e;
}

-- two refusals that are the same have the same place
pub same_place : {A : Type 0} {m n p q : ℕ} → ◌≡◌ {A = Answer A} (refused m p) (refused n q) → p ≡ q
same_place e = cc

pub refuse-lawful : {A : Type 0} (n : ℕ) → Lawful {A = A} (refuse n)
refuse-lawful {A} n = record {
  accepts = record {
    within = λ s at end next a h e. never e;
    local = λ s t at end h q. refl;
    stable = λ s at end next end' a h e l. never e;
    cut = λ s at end next end' a h e l g. never e;
  };
  placed = λ s at end m p h e. let q = same_place {A = A} e in omega arith;
}

pub pick-lawful : {A : Type 0} (b : Bool) {r q : Reader A} → Lawful r → Lawful q → Lawful (pick b r q)
pick-lawful true g h = g
pick-lawful false g h = h

-- a reading that is accepted after another: what the first gave
pub split : {A B : Type 0} (x : Answer A) (k : A → Reader B) (s : List ℕ) (end next : ℕ) (b : B) → after x k s end ≡ got b next
    → (a : A) × (m : ℕ) × (x ≡ got a m) × (k a s m end ≡ got b next)
split (got a m) k s end next b e = (a, m, refl, e)
split (refused n p) k s end next b e = never e

-- two readings agree where the first answers agree, and what follows an accepted one does
pub after-local : {A B : Type 0} (r : Reader A) (k : A → Reader B) (s t : List ℕ) (at end : ℕ) → r s at end ≡ r t at end
    → ((a : A) (m : ℕ) → r s at end ≡ got a m → k a s m end ≡ k a t m end) → (r >>= k) s at end ≡ (r >>= k) t at end
after-local {A} {B} r k s t at end e f = go (r s at end) refl ∙ ap (λ (x : Answer A). after x k t end) e
  where
    go : (x : Answer A) → r s at end ≡ x → after x k s end ≡ after x k t end
    go (got a m) e = f a m e
    go (refused n p) e = refl

-- a refusal of one after another is the first one's, or the second one's after what the first gave
pub after-placed : {A B : Type 0} (r : Reader A) (k : A → Reader B) (s : List ℕ) (at end n p : ℕ)
    → ((m q : ℕ) → r s at end ≡ refused m q → q ≤ end)
    → ((a : A) (m : ℕ) → r s at end ≡ got a m → k a s m end ≡ refused n p → p ≤ end) → (r >>= k) s at end ≡ refused n p → p ≤ end
after-placed {A} {B} r k s at end n p f g = go (r s at end) refl
  where
    go : (x : Answer A) → r s at end ≡ x → after x k s end ≡ refused n p → p ≤ end
    go (got a m) q e = g a m q e
    go (refused m o) q e = let z = same_place {A = B} e in let l = f m o q in omega arith

module _ {A B : Type 0} (r : Reader A) (k : A → Reader B) (gr : Accepting r) (gk : (a : A) → Accepting (k a)) where
  bind-within : (s : List ℕ) (at end next : ℕ) (b : B) → at ≤ end → (r >>= k) s at end ≡ got b next → (at ≤ next) × (next ≤ end)
  bind-within s at end next b h e =
      let w = split (r s at end) k s end next b e in
      let u = gr.within s at end w.1 w.0 h w.2 in
      let v = (gk w.0).within s w.1 end next b u.1 w.3 in
      omega arith

  bind-local : (s t : List ℕ) (at end : ℕ) → at ≤ end → Same s t at end → (r >>= k) s at end ≡ (r >>= k) t at end
  bind-local s t at end h q =
      after-local r k s t at end (gr.local s t at end h q) λ a m e.
      let u = gr.within s at end m a h e in
      (gk a).local s t m end u.1 (λ i l g. q i (omega arith) g)

  bind-stable : (s : List ℕ) (at end next end' : ℕ) (b : B) → at ≤ end → (r >>= k) s at end ≡ got b next → next ≤ end'
      → (r >>= k) s at end' ≡ got b next
  bind-stable s at end next end' b h e l =
      let w = split (r s at end) k s end next b e in
      let u = gr.within s at end w.1 w.0 h w.2 in
      let v = (gk w.0).within s w.1 end next b u.1 w.3 in
      let x = gr.stable s at end w.1 end' w.0 h w.2 (omega arith) in
      rw x ((gk w.0).stable s w.1 end next end' b u.1 w.3 l)

  bind-cut : (s : List ℕ) (at end next end' : ℕ) (b : B) → at ≤ end → (r >>= k) s at end ≡ got b next → at ≤ end' → end' < next
      → (p : ℕ) × ((r >>= k) s at end' ≡ refused 10 p)
  bind-cut s at end next end' b h e l g =
      let w = split (r s at end) k s end next b e in
      let u = gr.within s at end w.1 w.0 h w.2 in
      elim (dec_le w.1 end') [
        | yes d ↦
            let x = gr.stable s at end w.1 end' w.0 h w.2 d in
            let y = (gk w.0).cut s w.1 end next end' b u.1 w.3 d g in
            (y.0, rw x y.1)
        | no d ↦
            let y = gr.cut s at end w.1 end' w.0 h w.2 l (omega arith) in
            (y.0, rw y.1)
      ]

  pub bind-accepting : Accepting (r >>= k)
  bind-accepting = record { within = bind-within; local = bind-local; stable = bind-stable; cut = bind-cut }

pub bind_lawful : {A B : Type 0} (r : Reader A) (k : A → Reader B) → Lawful r → ((a : A) → Lawful (k a)) → Lawful (r >>= k)
bind_lawful r k gr gk = record {
  accepts = bind-accepting r k gr.accepts (λ a. (gk a).accepts);
  placed = λ s at end n p h.
      after-placed r k s at end n p (λ m q. gr.placed s at end m q h)
      (λ a m e. (gk a).placed s m end n p (gr.accepts.within s at end m a h e).1);
}

-- a reading that has to pass a test
pub tested-got : {A : Type 0} (x : Answer A) (n : ℕ) (ok : A → Bool) (at next : ℕ) (a : A) → tested x n ok at ≡ got a next
    → (x ≡ got a next) × (ok a ≡ true)
tested-got (got b m) n ok at next a e = go (ok b) refl e
  where
    go : (t : Bool) → ok b ≡ t → pick t (got b m) (refused n at) ≡ got a next → (got b m ≡ got a next) × (ok a ≡ true)
    go true q e = let w : b ≡ a = cc in (e, rw (← w) q)
    go false q e = never e
tested-got (refused k p) n ok at next a e = never e

-- the place of a test's refusal is where its field began
tested-placed : {A : Type 0} (x : Answer A) (n : ℕ) (ok : A → Bool) (at end m p : ℕ) → at ≤ end
    → ((k q : ℕ) → x ≡ refused k q → q ≤ end) → tested x n ok at ≡ refused m p → p ≤ end
tested-placed {A} (got a next) n ok at end m p h f e = go (ok a) e
  where
    go : (b : Bool) → pick b (got a next) (refused n at) ≡ refused m p → p ≤ end
    go true e = not-refused e
    go false e = let q = same_place {A = A} e in omega arith
tested-placed (refused k q) n ok at end m p h f e = f m p e

pub expecting-lawful : {A : Type 0} (n : ℕ) (ok : A → Bool) (r : Reader A) → Lawful r → Lawful (expecting n ok r)
expecting-lawful n ok r g = record {
  accepts = record {
    within = λ s at end next a h e. g.accepts.within s at end next a h (tested-got (r s at end) n ok at next a e).0;
    local = λ s t at end h q. rw (g.accepts.local s t at end h q);
    stable = λ s at end next end' a h e l.
        let w = tested-got (r s at end) n ok at next a e in
        rw (g.accepts.stable s at end next end' a h w.0 l, w.1);
    cut = λ s at end next end' a h e l o.
        let w = tested-got (r s at end) n ok at next a e in
        let y = g.accepts.cut s at end next end' a h w.0 l o in
        (y.0, rw y.1);
  };
  placed = λ s at end m p h e. tested-placed (r s at end) n ok at end m p h (λ k q. g.placed s at end k q h) e;
}
