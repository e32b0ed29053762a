-- Laws of a field: when it is there, when it is short, and the reading laws.
-- Assumes nothing.
use Prim.Native.Nat.{ℕ, ◌+◌, ◌<◌, ◌≤◌}
use mathlib.Core.Path.{◌≡◌, refl, sym, ◌∙◌}
use mathlib.Core.List.{List}
use mathlib.Core.Logic.{◌⊎◌, inl, inr}
use native.Mathlib.Omega.{arith}
use native.Mathlib.Decide.{dec_le}
use borrow.Author.Tests.{le-leb, lt-leb}
use Rattle.bits.specs.Bits.{bits_from}
use Rattle.bits.specs.Reader.{got, refused}
use Rattle.bits.specs.Field.{field, zero_bit}
use Rattle.bits.proofs.BitLaws.{bits_from-same}
use Rattle.bits.proofs.Lawful.{Lawful, never, not-refused, same_place, expecting-lawful}

-- a field that is all there, and one that is not; the code's answer stands on the left, so that a `return` cites the law as it is
pub is_field : {v : ℕ} (n : ℕ) (s : List ℕ) (at end : ℕ) → at + n ≤ end → v ≡ bits_from s at n → got v (at + n) ≡ field n s at end
unfolding field
is_field n s at end h e = simp (le-leb _ _ h, e)

pub is-short : (n : ℕ) (s : List ℕ) (at end : ℕ) → end < at + n → refused 10 at ≡ field n s at end
unfolding field
is-short n s at end h = simp (lt-leb _ _ h)

-- a field's answer, by cases
field_cases : (n : ℕ) (s : List ℕ) (at end : ℕ)
    → ((at + n ≤ end) × (field n s at end ≡ got (bits_from s at n) (at + n))) ⊎ ((end < at + n) × (field n s at end ≡ refused 10 at))
field_cases n s at end =
    elim (dec_le (at + n) end) [
      | yes d ↦ inl (d, sym (is_field n s at end d refl))
      | no d ↦ let g : end < at + n = omega arith in inr (g, sym (is-short n s at end g))
    ]

pub field-taken : (n : ℕ) (s : List ℕ) (at end next a : ℕ) → field n s at end ≡ got a next
    → (at + n ≤ end) × (a ≡ bits_from s at n) × (next ≡ at + n)
field-taken n s at end next a e =
    elim (field_cases n s at end) [
      | inl w ↦ (w.0, (let q = w.1 in cc), (let q = w.1 in cc))
      | inr w ↦ never (sym w.1 ∙ e)
    ]

pub field-lawful : (n : ℕ) → Lawful (field n)
field-lawful n = record {
  accepts = record {
    within = λ s at end next a h e. let w = field-taken n s at end next a e in omega arith;
    local = λ s t at end h q.
        elim (field_cases n s at end) [
          | inl w ↦ w.1 ∙ is_field n t at end w.0 (bits_from-same s t at n end w.0 q)
          | inr w ↦ w.1 ∙ is-short n t at end w.0
        ];
    stable = λ s at end next end' a h e l.
        let w = field-taken n s at end next a e in
        let x = is_field n s at end' (omega arith) refl in
        cc;
    cut = λ s at end next end' a h e l g.
        let w = field-taken n s at end next a e in
        (at, sym (is-short n s at end' (omega arith)));
  };
  placed = λ s at end m p h e.
      elim (field_cases n s at end) [
        | inl w ↦ not-refused (sym w.1 ∙ e)
        | inr w ↦ let q = same_place {A = ℕ} (sym w.1 ∙ e) in omega arith
      ];
}

pub zero_bit-lawful : (n : ℕ) → Lawful (zero_bit n)
unfolding zero_bit
zero_bit-lawful n = expecting-lawful n _ _ (field-lawful 1)
