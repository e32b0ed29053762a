-- Whole payloads: what was accepted left at most 7 bits, a refusal's place lies in the payload or at its end, and a payload that is cut so
-- that fewer bits are there than it used is 10.
-- Assumes nothing.
use Prim.Native.Nat.{ℕ, ◌*◌, ◌-◌, ◌/◌, ◌<◌, ◌≤◌}
use mathlib.Core.Path.{◌≡◌, ◌∙◌, ap, ap₂}
use mathlib.Core.List.{List}
use native.Mathlib.Omega.{arith}
use native.Mathlib.Decide.{dec_le}
use borrow.Author.Tests.{le-leb, lt-leb}
use lib.ListN.{length, take}
use lib.Seq.{get_or-take, length-take-le}
use Rattle.bits.specs.Bits.{bit_at}
use Rattle.bits.specs.Reader.{got, refused, Reader, ◌>>=◌}
use Rattle.bits.specs.Payload.{ended, whole}
use Rattle.bits.proofs.Lawful.{Lawful, never, not-refused, same_place, split, after-placed}

ended-got : {A : Type 0} (a b : A) (s : List ℕ) (at end next : ℕ) → ended a s at end ≡ got b next → (a ≡ b) × (at ≡ next) × (end - at ≤ 7)
unfolding ended
ended-got a b s at end next e =
    elim (dec_le (end - at) 7) [
      | yes d ↦ let g : got a at ≡ got b next = rw (le-leb _ _ d) at e in (cc, cc, d)
      | no d ↦ never (rw (lt-leb (end - at) 7 (omega arith)) at e)
    ]

-- what is left is judged where the reading ended
pub ended-placed : {A : Type 0} (a : A) (s : List ℕ) (at end n p : ℕ) → ended a s at end ≡ refused n p → at ≡ p
unfolding ended
ended-placed {A} a s at end n p e =
    elim (dec_le (end - at) 7) [
      | yes d ↦ not-refused (rw (le-leb _ _ d) at e)
      | no d ↦ same_place {A = A} (rw (lt-leb (end - at) 7 (omega arith)) at e)
    ]

-- the place of a refusal, of a reader or of what is left after it, is no further than the end
pub placed-inside : {A : Type 0} (r : Reader A) → Lawful r → (s : List ℕ) (end n p : ℕ) → (r >>= ended) s 0 end ≡ refused n p → p ≤ end
placed-inside r g s end n p =
    after-placed r ended s 0 end n p (λ m q. g.placed s 0 end m q (omega arith)) λ a m f h.
    let q = ended-placed a s m end n p h in
    let w = g.accepts.within s 0 end m a (omega arith) f in
    omega arith

-- the bits of the first bytes are theirs
pub bit_take : (s : List ℕ) (k i : ℕ) → i < 8 * k → bit_at (take k s) i ≡ bit_at s i
unfolding bit_at
bit_take s k i h = let l : i / 8 < k = omega arith in rw (get_or-take)

module _ {A : Type 0} (r : Reader A) where
  -- what an accepted payload was read to
  pub whole-got : (s : List ℕ) (next : ℕ) (a : A) → whole r s ≡ got a next → (r s 0 (8 * length s) ≡ got a next) × (8 * length s - next ≤ 7)
  unfolding whole
  whole-got s next a e =
      let w = split (r s 0 (8 * length s)) ended s (8 * length s) next a e in
      let u = ended-got w.0 a s w.1 (8 * length s) next w.3 in
      (w.2 ∙ ap₂ got u.0 u.1, omega arith)

  -- a reading that leaves at most 7 bits is a payload
  pub whole_is : (s : List ℕ) (next : ℕ) (a : A) → r s 0 (8 * length s) ≡ got a next → 8 * length s - next ≤ 7 → whole r s ≡ got a next
  unfolding whole ended
  whole_is s next a e h = rw (e, le-leb _ _ h)

  -- a refusal stands
  pub whole-refused : (s : List ℕ) (n p : ℕ) → r s 0 (8 * length s) ≡ refused n p → whole r s ≡ refused n p
  unfolding whole
  whole-refused s n p e = rw e

  -- at a place that is no further than the payload's end
  pub whole-placed : Lawful r → (s : List ℕ) (n p : ℕ) → whole r s ≡ refused n p → p ≤ 8 * length s
  unfolding whole
  whole-placed g s n p = placed-inside r g s (8 * length s) n p

  -- no cut goes unseen
  pub whole-cut : Lawful r → (s : List ℕ) (next : ℕ) (a : A) (k : ℕ) → whole r s ≡ got a next → 8 * k < next
      → (p : ℕ) × (whole r (take k s) ≡ refused 10 p)
  whole-cut g s next a k e h =
      let w = whole-got s next a e in
      let u = g.accepts.within s 0 (8 * length s) next a (omega arith) w.0 in
      let l : length (take k s) ≡ k = length-take-le k s (omega arith) in
      let c = g.accepts.cut s 0 (8 * length s) next (8 * k) a (omega arith) w.0 (omega arith) h in
      let q : r (take k s) 0 (8 * k) ≡ refused 10 c.0 =
      g.accepts.local (take k s) s 0 (8 * k) (omega arith) (λ i a b. bit_take s k i b) ∙ c.1 in
      (c.0, whole-refused (take k s) 10 c.0 (ap (λ (m : ℕ). r (take k s) 0 (8 * m)) l ∙ q))
