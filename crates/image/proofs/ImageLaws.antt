-- What a sound image's header says, fact by fact; and that each payload lies in the image.
-- Assumes nothing.
use Prim.Native.Nat.{ℕ, zero, suc, ◌+◌, ◌*◌, ◌%◌, ◌-◌, ◌<◌, ◌≤◌}
use mathlib.Core.Path.{◌≡◌, refl, subst}
use mathlib.Core.Bool.{Bool, true, false, ◌&&◌}
use mathlib.Core.List.{List}
use native.Mathlib.Omega.{arith}
use lib.Dec.{leb, eqb}
use lib.ListN.{length}
use borrow.Author.Tests.{leb-true, eqb-true}
use Rattle.bits.proofs.Bools.{and_both}
use Rattle.bits.specs.Reader.{pick}
use Rattle.image.specs.Image.{count_of, index_of, offset_of, rising, sound_image, refused_header, header_of, header_for}
use Rattle.bits.specs.Sampling.{known_index}

pub record Sound (s : List ℕ) : Type 0 where
  pub small : length s ≤ 65535
  pub even : count_of s % 2 ≡ 0
  pub pairs : 2 * count_of s + 6 ≤ length s
  pub few : count_of s ≤ 1024
  pub first : offset_of s 0 ≡ 2 * count_of s + 6
  pub order : rising s 0 (count_of s) ≡ true
  pub last : offset_of s (count_of s) ≡ length s

pub sound_facts : (s : List ℕ) → sound_image s ≡ true → Sound s
unfolding sound_image
sound_facts s e =
    let a = leb (length s) 65535 in
    let b = leb 6 (length s) in
    let c = eqb (count_of s % 2) 0 in
    let d = leb (count_of s) 1024 in
    let f = leb (2 * count_of s + 6) (length s) in
    let g = eqb (offset_of s 0) (2 * count_of s + 6) in
    let h = rising s 0 (count_of s) in
    let last = and_both (a && b && c && d && f && g && h) (eqb (offset_of s (count_of s)) (length s)) e in
    let order = and_both (a && b && c && d && f && g) h last.0 in
    let first = and_both (a && b && c && d && f) g order.0 in
    let pairs = and_both (a && b && c && d) f first.0 in
    let few = and_both (a && b && c) d pairs.0 in
    let even = and_both (a && b) c few.0 in
    let size = and_both a b even.0 in
    record {
      small = leb-true _ _ size.0;
      even = eqb-true _ _ even.1;
      pairs = leb-true _ _ pairs.1;
      few = leb-true _ _ few.1;
      first = eqb-true _ _ first.1;
      order = order.1;
      last = eqb-true _ _ last.1;
    }

-- an image that cannot have them all is not sound
pub unsound : (s : List ℕ) → (Sound s → ⊥) → false ≡ sound_image s
unsound s n = go (sound_image s) refl
  where
    go : (b : Bool) → sound_image s ≡ b → false ≡ b
    go true e = absurd (n (sound_facts s e))
    go false e = refl

-- of offsets that rise, a later one is not before an earlier
rising_le : (s : List ℕ) (k m : ℕ) → rising s k m ≡ true → (j : ℕ) → j ≤ m → offset_of s k ≤ offset_of s (k + j)
unfolding rising
rising_le s k m e zero h = let q : k + 0 ≡ k = omega arith in rw q (omega arith)
rising_le s k zero e (suc j) h = absurd (omega arith)
rising_le s k (suc m) e (suc j) h =
    let w = and_both (leb (offset_of s k) (offset_of s (k + 1))) (rising s (k + 1) m) e in
    let r = rising_le s (k + 1) m w.1 j (omega arith) in
    let q : k + 1 + j ≡ k + suc j = omega arith in
    let r' : offset_of s (k + 1) ≤ offset_of s (k + suc j) = subst (λ (i : ℕ). offset_of s (k + 1) ≤ offset_of s i) q r in
    omega (arith, leb-true (offset_of s k) (offset_of s (k + 1)) w.0)

-- of offsets that rise, those from a later one on do
rising-from : (s : List ℕ) (k m j : ℕ) → j ≤ m → rising s k m ≡ true → rising s (k + j) (m - j) ≡ true
unfolding rising
rising-from s k m zero h e = let a : k + 0 ≡ k = omega arith in let b : m - 0 ≡ m = omega arith in rw (a, b) e
rising-from s k zero (suc j) h e = absurd (omega arith)
rising-from s k (suc m) (suc j) h e =
    let w = and_both (leb (offset_of s k) (offset_of s (k + 1))) (rising s (k + 1) m) e in
    let a : k + suc j ≡ k + 1 + j = omega arith in
    let b : suc m - suc j ≡ m - j = omega arith in
    rw (a, b) (rising-from s (k + 1) m j (omega arith) w.1)

-- a payload's part lies in the image
module _ (s : List ℕ) (f : Sound s) (k : ℕ) (h : k < count_of s) where
  after_first : (j : ℕ) → j ≤ count_of s → rising s j (count_of s - j) ≡ true
  after_first j l = let q : 0 + j ≡ j = omega arith in rw q at (rising-from s 0 (count_of s) j l f.order)

  pub part-order : offset_of s k ≤ offset_of s (k + 1)
  part-order = rising_le s k (count_of s - k) (after_first k (omega arith)) 1 (omega arith)

  pub part-inside : offset_of s (k + 1) ≤ length s
  part-inside =
      let q : k + 1 + (count_of s - (k + 1)) ≡ count_of s = omega arith in
      let r = rising_le s (k + 1) (count_of s - (k + 1)) (after_first (k + 1) (omega arith)) (count_of s - (k + 1)) (omega arith) in
      let l : offset_of s (k + 1) ≤ offset_of s (count_of s) = subst (λ (i : ℕ). offset_of s (k + 1) ≤ offset_of s i) q r in
      omega (arith, f.last)

-- a header that is accepted is a sound image's
pub header-sound : (s : List ℕ) → (header_of s).number ≡ 0 → Sound s × ((header_of s).count ≡ count_of s)
unfolding header_of
header-sound s e = go (sound_image s) refl (known_index (index_of s)) e
  where
    go : (a : Bool) → sound_image s ≡ a → (b : Bool)
        → (pick a (pick b (record { number = 0; count = count_of s; index = index_of s }) (refused_header 3)) (refused_header 5)).number ≡ 0
        → Sound s × ((pick a (pick b (record { number = 0; count = count_of s; index = index_of s }) (refused_header 3))
        (refused_header 5)).count ≡ count_of s)
    go true q true e = (sound_facts s q, refl)
    go true q false e = absurd (omega arith)
    go false q b e = absurd (omega arith)

-- 5 is answered exactly where the image is not sound
pub header_5 : (s : List ℕ) → (header_of s).number ≡ 5 → (sound_image s ≡ false) × (header_of s ≡ refused_header 5)
unfolding header_of
header_5 s e = go (sound_image s) (known_index (index_of s)) e
  where
    go : (a b : Bool)
        → (pick a (pick b (record { number = 0; count = count_of s; index = index_of s }) (refused_header 3)) (refused_header 5)).number ≡ 5
        → (a ≡ false)
        × (pick a (pick b (record { number = 0; count = count_of s; index = index_of s }) (refused_header 3)) (refused_header 5)
        ≡ refused_header 5)
    go true true e = absurd (omega arith)
    go true false e = absurd (omega arith)
    go false b e = (refl, refl)

pub header-not_5 : (s : List ℕ) → ((header_of s).number ≡ 5 → ⊥) → sound_image s ≡ true
unfolding header_of
header-not_5 s = go (sound_image s)
  where
    go : (a : Bool)
        → ((pick a (pick (known_index (index_of s)) (record { number = 0; count = count_of s; index = index_of s }) (refused_header 3))
        (refused_header 5)).number ≡ 5 → ⊥)
        → a ≡ true
    go true f = refl
    go false f = absurd (f refl)

-- a header that is accepted for an output is the image's, with few payloads, and the output has room for them
pub header-for : (each : ℕ) (s : List ℕ) (room : ℕ) → (header_for each s room).number ≡ 0
    → (header_for each s room ≡ header_of s) × ((header_of s).number ≡ 0) × ((header_of s).count ≤ 1024)
    × (each * (header_of s).count ≤ room)
unfolding header_for
header-for each s room = go (sound_image s) (leb (each * count_of s) room) refl
  where
    go : (a b : Bool) → leb (each * count_of s) room ≡ b → (pick a (pick b (header_of s) (refused_header 2)) (refused_header 5)).number ≡ 0
        → (pick a (pick b (header_of s) (refused_header 2)) (refused_header 5) ≡ header_of s) × ((header_of s).number ≡ 0)
        × ((header_of s).count ≤ 1024) × (each * (header_of s).count ≤ room)
    go true true q e =
        let known = header-sound s e in
        (refl, e, omega (arith, known.0.few, known.1), rw known.1 (leb-true (each * count_of s) room q))
    go true false q e = absurd (omega arith)
    go false b q e = absurd (omega arith)
