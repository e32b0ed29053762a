-- Readers that fill a part to its end, and a part of an announced size: it keeps the reading laws, though what fills it goes by its end.
-- Assumes nothing.
use Prim.Native.Nat.{ℕ, ◌+◌, ◌-◌, ◌<◌, ◌≤◌}
use mathlib.Core.Path.{◌≡◌, sym, ◌∙◌, ap}
use mathlib.Core.List.{List}
use native.Mathlib.Omega.{arith}
use native.Mathlib.Decide.{dec_le}
use borrow.Author.Tests.{le-leb, lt-leb}
use Rattle.bits.specs.Bits.{bits_from}
use Rattle.bits.specs.Reader.{Answer, got, refused, Reader, ◌>>=◌}
use Rattle.bits.specs.Inside.{renumbered, inside, Fill, left_over}
use Rattle.bits.proofs.BitLaws.{Same, bits_from-same}
use Rattle.bits.proofs.Lawful.{Lawful, never, not-refused, same_place, split, after-local, after-placed}

-- a reader that fills: what it accepts reaches to the end, a refusal's place is no further, and only the bits up to it count
pub record Filling {A : Type 0} (r : Reader A) : Type 0 where
  pub full : (s : List ℕ) (at end next : ℕ) (a : A) → at ≤ end → r s at end ≡ got a next → next ≡ end
  pub placed : (s : List ℕ) (at end n p : ℕ) → at ≤ end → r s at end ≡ refused n p → p ≤ end
  pub local : (s t : List ℕ) (at end : ℕ) → at ≤ end → Same s t at end → r s at end ≡ r t at end

-- a lawful reader, and then one that fills
pub then_filling : {A B : Type 0} (r : Reader A) (k : A → Reader B) → Lawful r → ((a : A) → Filling (k a)) → Filling (r >>= k)
then_filling r k g f = record {
  full = λ s at end next b h e.
      let w = split (r s at end) k s end next b e in
      let u = g.accepts.within s at end w.1 w.0 h w.2 in
      (f w.0).full s w.1 end next b u.1 w.3;
  placed = λ s at end n p h.
      after-placed r k s at end n p (λ m q. g.placed s at end m q h)
      (λ a m e. (f a).placed s m end n p (g.accepts.within s at end m a h e).1);
  local = λ s t at end h q.
      after-local r k s t at end (g.accepts.local s t at end h q) λ a m e.
      let u = g.accepts.within s at end m a h e in
      (f a).local s t m end u.1 (λ i l o. q i (omega arith) o);
}

-- one that fills, and then a lawful reader, which finds nothing left
pub filling_then : {A B : Type 0} (r : Reader A) (k : A → Reader B) → Filling r → ((a : A) → Lawful (k a)) → Filling (r >>= k)
filling_then r k f g = record {
  full = λ s at end next b h e.
      let w = split (r s at end) k s end next b e in
      let u = f.full s at end w.1 w.0 h w.2 in
      let v = (g w.0).accepts.within s w.1 end next b (omega arith) w.3 in
      omega arith;
  placed = λ s at end n p h.
      after-placed r k s at end n p (λ m q. f.placed s at end m q h)
      (λ a m e. let u = f.full s at end m a h e in (g a).placed s m end n p (omega arith));
  local = λ s t at end h q.
      after-local r k s t at end (f.local s t at end h q) λ a m e.
      let u = f.full s at end m a h e in
      (g a).accepts.local s t m end (omega arith) (λ i l o. q i (omega arith) o);
}

pub left_over-filling : (most : ℕ) (other : Reader Fill) → Filling other → Filling (left_over most other)
unfolding left_over
left_over-filling most other f = record {
  full = λ s at end next x h e.
      elim (dec_le (end - at) most) [
        | yes d ↦
            let g : got (record { count = end - at; value = bits_from s at (end - at) }) (at + (end - at)) ≡ got x next =
            rw (le-leb _ _ d) at e in
            let q : at + (end - at) ≡ next = cc in
            omega arith
        | no d ↦ f.full s at end next x h (rw (lt-leb (end - at) most (omega arith)) at e)
      ];
  placed = λ s at end n p h e.
      elim (dec_le (end - at) most) [
        | yes d ↦ not-refused (rw (le-leb _ _ d) at e)
        | no d ↦ f.placed s at end n p h (rw (lt-leb (end - at) most (omega arith)) at e)
      ];
  local = λ s t at end h q.
      elim (dec_le (end - at) most) [
        | yes d ↦ rw (le-leb (end - at) most d, bits_from-same s t at (end - at) end (omega arith) q)
        | no d ↦ rw (lt-leb (end - at) most (omega arith)) (f.local s t at end h q)
      ];
}

renumbered-got : {A : Type 0} (short : ℕ) (x : Answer A) (next : ℕ) (a : A) → renumbered short x ≡ got a next → x ≡ got a next
renumbered-got short (got b m) next a e = e
renumbered-got short (refused n p) next a e = never e

-- another number has the same place
renumbered-refused : {A : Type 0} (short : ℕ) (x : Answer A) (n p : ℕ) → renumbered short x ≡ refused n p → (m : ℕ) × (x ≡ refused m p)
renumbered-refused short (got b m) n p e = not-refused e
renumbered-refused {A} short (refused m q) n p e = (m, ap (refused m) (same_place {A = A} e))

module _ {A : Type 0} (n short : ℕ) (r : Reader A) where
  -- what an accepted part has read
  pub inside-got : (s : List ℕ) (at end next : ℕ) (a : A) → inside n short r s at end ≡ got a next
      → (at + n ≤ end) × (r s at (at + n) ≡ got a next)
  unfolding inside
  inside-got s at end next a e =
      elim (dec_le (at + n) end) [
        | yes d ↦ (d, renumbered-got short (r s at (at + n)) next a (rw (le-leb _ _ d) at e))
        | no d ↦ never (rw (lt-leb (at + n) end (omega arith)) at e)
      ]

  -- a part that is all there, and one that passes the end
  pub inside-there : (s : List ℕ) (at end : ℕ) → at + n ≤ end → inside n short r s at end ≡ renumbered short (r s at (at + n))
  unfolding inside
  inside-there s at end h = rw (le-leb _ _ h)

  pub inside-short : (s : List ℕ) (at end : ℕ) → end < at + n → inside n short r s at end ≡ refused 10 at
  unfolding inside
  inside-short s at end h = rw (lt-leb _ _ h)

  pub inside-lawful : Filling r → Lawful (inside n short r)
  inside-lawful f = record {
    accepts = record {
      within = λ s at end next a h e. let w = inside-got s at end next a e in let u =
          f.full s at (at + n) next a (omega arith) w.1 in omega arith;
      local = λ s t at end h q.
          elim (dec_le (at + n) end) [
            | yes d ↦
                inside-there s at end d ∙ ap (renumbered short) (f.local s t at (at + n) (omega arith) (λ i u v. q i u (omega arith)))
                ∙ sym (inside-there t at end d)
            | no d ↦ inside-short s at end (omega arith) ∙ sym (inside-short t at end (omega arith))
          ];
      stable = λ s at end next end' a h e l.
          let w = inside-got s at end next a e in
          let u = f.full s at (at + n) next a (omega arith) w.1 in
          inside-there s at end' (omega arith) ∙ ap (renumbered short) w.1;
      cut = λ s at end next end' a h e l o.
          let w = inside-got s at end next a e in
          let u = f.full s at (at + n) next a (omega arith) w.1 in
          (at, inside-short s at end' (omega arith));
    };
    placed = λ s at end m p h e.
        elim (dec_le (at + n) end) [
          | yes d ↦
              let w = renumbered-refused short (r s at (at + n)) m p (sym (inside-there s at end d) ∙ e) in
              let l = f.placed s at (at + n) w.0 p (omega arith) w.1 in
              omega arith
          | no d ↦ let q = same_place {A = A} (sym (inside-short s at end (omega arith)) ∙ e) in omega arith
        ];
  }
