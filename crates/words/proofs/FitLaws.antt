-- What it is that a word fits the bits at a place, or is cut off by the end; and that this goes by the bits up to the end alone.
-- Assumes nothing.
use Prim.Native.Nat.{ℕ, ◌-◌, ◌/◌, ◌^◌, ◌<◌, ◌≤◌}
use mathlib.Core.Path.{◌≡◌}
use mathlib.Core.Bool.{true}
use mathlib.Core.List.{List}
use native.Mathlib.Omega.{arith}
use native.Mathlib.Decide.{dec_le}
use lib.Dec.{leb, ltb, eqb}
use borrow.Author.Tests.{eq-eqb, le-leb, lt-leb, lt-ltb, leb-true, eqb-true, ltb-true}
use Rattle.bits.specs.Bits.{bits_from}
use Rattle.bits.proofs.Bools.{and_both}
use Rattle.bits.proofs.BitLaws.{Same, bits_from-same}
use Rattle.words.specs.Words.{fits, cut_off}

pub fit_of : (c l : ℕ) (s : List ℕ) (at end : ℕ) → l ≤ end - at → bits_from s at l ≡ c → fits c l s at end ≡ true
unfolding fits
fit_of c l s at end h e = simp (le-leb _ _ h, eq-eqb _ _ e)

pub fit_parts : (c l : ℕ) (s : List ℕ) (at end : ℕ) → fits c l s at end ≡ true → (l ≤ end - at) × (bits_from s at l ≡ c)
unfolding fits
fit_parts c l s at end e =
    let w = and_both (leb l (end - at)) (eqb (bits_from s at l) c) e in
    (leb-true _ _ w.0, eqb-true _ _ w.1)

pub cut_of : (c l : ℕ) (s : List ℕ) (at end : ℕ) → end - at < l → bits_from s at (end - at) ≡ c / 2 ^ (l - (end - at))
    → cut_off c l s at end ≡ true
unfolding cut_off
cut_of c l s at end h e = simp (lt-ltb _ _ h, eq-eqb _ _ e)

pub cut_parts : (c l : ℕ) (s : List ℕ) (at end : ℕ) → cut_off c l s at end ≡ true
    → (end - at < l) × (bits_from s at (end - at) ≡ c / 2 ^ (l - (end - at)))
unfolding cut_off
cut_parts c l s at end e =
    let w = and_both (ltb (end - at) l) (eqb (bits_from s at (end - at)) (c / 2 ^ (l - (end - at)))) e in
    (ltb-true _ _ w.0, eqb-true _ _ w.1)

pub fits-same : (c l : ℕ) (s t : List ℕ) (at end : ℕ) → at ≤ end → Same s t at end → fits c l s at end ≡ fits c l t at end
unfolding fits
fits-same c l s t at end h q =
    elim (dec_le l (end - at)) [
      | yes d ↦ rw (bits_from-same s t at l end (omega arith) q)
      | no d ↦ simp (lt-leb l (end - at) (omega arith))
    ]

pub cut-same : (c l : ℕ) (s t : List ℕ) (at end : ℕ) → at ≤ end → Same s t at end → cut_off c l s at end ≡ cut_off c l t at end
unfolding cut_off
cut-same c l s t at end h q = rw (bits_from-same s t at (end - at) end (omega arith) q)
