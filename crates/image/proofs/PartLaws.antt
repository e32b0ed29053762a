-- A payload that an image has: its header is accepted, and it stands from its offset to the next one.
-- Assumes nothing.
use Prim.Native.Nat.{ℕ, zero, suc, ◌+◌, ◌<◌}
use mathlib.Core.Path.{◌≡◌, refl}
use mathlib.Core.Bool.{Bool, true, false}
use mathlib.Core.List.{List}
use native.Mathlib.Omega.{arith}
use lib.Dec.{eqb, ltb}
use borrow.Author.Tests.{lt-ltb, ltb-true, ne_eqb}
use Rattle.bits.specs.Reader.{pick}
use Rattle.image.specs.declared.Part.{Part}
use Rattle.image.specs.Image.{count_of, offset_of, header_of, refused_part, part_of}
use Rattle.image.proofs.ImageLaws.{Sound, header-sound}

module _ (s : List ℕ) (k : ℕ) where
  -- where the payload stands
  abbrev pub place_of : Part
  place_of = record { number = 0; start = offset_of s k; end = offset_of s (k + 1) }

  passed : (n : ℕ) (b : Bool) → (pick (eqb n 0) (pick b place_of (refused_part 1)) (refused_part n)).number ≡ 0 → (n ≡ 0) × (b ≡ true)
  passed zero true e = (refl, refl)
  passed zero false e = absurd (omega arith)
  passed (suc n) b e = absurd (omega (arith, rw (ne_eqb (suc n) 0 (λ q. absurd (omega arith))) at e))

  -- it is there exactly where the header is accepted and counts it
  pub part-there : (header_of s).number ≡ 0 → k < (header_of s).count → part_of s k ≡ place_of
  unfolding part_of
  part-there z h = rw (z, lt-ltb k (header_of s).count h)

  counted : (part_of s k).number ≡ 0 → ((header_of s).number ≡ 0) × (k < (header_of s).count)
  unfolding part_of
  counted e =
      let tests = passed (header_of s).number (ltb k (header_of s).count) e in
      (tests.0, ltb-true k (header_of s).count tests.1)

  pub part-is : (part_of s k).number ≡ 0 → part_of s k ≡ place_of
  part-is e = let there = counted e in part-there there.0 there.1

  -- and then the image is sound
  pub part_sound : (part_of s k).number ≡ 0 → Sound s × (k < count_of s)
  part_sound e =
      let there = counted e in
      let known = header-sound s there.0 in
      (known.0, omega (arith, known.1, there.1))
