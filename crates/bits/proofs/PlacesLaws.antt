-- Reading laws of the readers that move or hold a place.
-- Assumes nothing.
use Prim.Native.Nat.{ℕ}
use mathlib.Core.Path.{◌≡◌, refl}
use native.Mathlib.Omega.{arith}
use Rattle.bits.specs.Reader.{Answer, got, refused, Reader}
use Rattle.bits.specs.Places.{placed, one_field, here}
use Rattle.bits.proofs.Lawful.{Lawful, never, not-refused, same_place}

pub here-lawful : Lawful here
unfolding here
here-lawful = record {
  accepts = record {
    within = λ s at end next b h e. let q : at ≡ next = cc in (omega arith, omega arith);
    local = λ s t at end h q. refl;
    stable = λ s at end next end' b h e l. e;
    cut = λ s at end next end' b h e l g. let q : at ≡ next = cc in absurd (omega arith);
  };
  placed = λ s at end n p h e. not-refused e;
}

pub placed-got : {A : Type 0} (x : Answer A) (at next : ℕ) (a : A) → placed x at ≡ got a next → x ≡ got a next
placed-got (got b m) at next a e = e
placed-got (refused n p) at next a e = never e

-- a refusal of one field stands where it began
pub placed-refused : {A : Type 0} (x : Answer A) (at n p : ℕ) → placed x at ≡ refused n p → at ≡ p
placed-refused (got b m) at n p e = not-refused e
placed-refused {A} (refused m q) at n p e = same_place {A = A} e

pub one_field-lawful : {A : Type 0} (r : Reader A) → Lawful r → Lawful (one_field r)
unfolding one_field
one_field-lawful r g = record {
  accepts = record {
    within = λ s at end next a h e. g.accepts.within s at end next a h (placed-got (r s at end) at next a e);
    local = λ s t at end h q. rw (g.accepts.local s t at end h q);
    stable = λ s at end next end' a h e l. rw (g.accepts.stable s at end next end' a h (placed-got (r s at end) at next a e) l);
    cut = λ s at end next end' a h e l o.
        let y = g.accepts.cut s at end next end' a h (placed-got (r s at end) at next a e) l o in
        (at, rw y.1);
  };
  placed = λ s at end n p h e. let q = placed-refused (r s at end) at n p e in omega arith;
}
