-- All parts of an image at once are its parts one by one: the eight bytes at 8 k are those that are answered of the payload k alone.
-- Assumes nothing.
use Prim.Native.Nat.{ℕ, zero, suc, ◌*◌, ◌<◌, ◌≤◌}
use mathlib.Core.Path.{◌≡◌, refl, sym, ap, ◌∙◌}
use mathlib.Core.Bool.{Bool, true, false}
use mathlib.Core.List.{List, ◌++◌, append_assoc}
use native.Mathlib.Omega.{arith}
use borrow.Author.Tests.{le-leb, eq-eqb, eqb-true, eqb-false}
use lib.Dec.{eqb}
use lib.ListN.{length, take, drop, length-append}
use lib.Seq.{take_at, drop_at}
use Rattle.bits.specs.Bytes.{word_of}
use Rattle.bits.proofs.OverLaws.{over-front}
use Rattle.image.specs.Image.{header_of, part_of}
use Rattle.image.specs.declared.Part.{Part}
use Rattle.image.proofs.ImageLaws.{header-for}
use Rattle.image.proofs.PartLaws.{part-there}
use Rattle.c_image.specs.ImageCalls.{part_bytes, parts_bytes, part_number, part_answer_after, parts_number, parts_answer_after}

module _ (image : List ℕ) where
  part-long : (k : ℕ) → length (part_bytes image k) ≡ 8
  unfolding word_of
  part-long k = refl

  parts-long : (n : ℕ) → length (parts_bytes image n) ≡ 8 * n
  unfolding parts_bytes
  parts-long zero = refl
  parts-long (suc n) = length-append (parts_bytes image n) (part_bytes image n) ∙ omega (arith, parts-long n, part-long n)

  -- whatever stands after them
  part_at : (n k : ℕ) → k < n → (rest : List ℕ) → take 8 (drop (8 * k) (parts_bytes image n ++ rest)) ≡ part_bytes image k
  unfolding parts_bytes
  part_at zero k h rest = absurd (omega arith)
  part_at (suc n) k h rest =
      ap (λ (s : List ℕ). take 8 (drop (8 * k) s)) (append_assoc (parts_bytes image n) (part_bytes image n) rest)
      ∙ by_place (eqb k n) refl (λ b. part_at n k b (part_bytes image n ++ rest))
    where
      by_place : (b : Bool) → eqb k n ≡ b
          → (k < n → take 8 (drop (8 * k) (parts_bytes image n ++ (part_bytes image n ++ rest))) ≡ part_bytes image k)
          → take 8 (drop (8 * k) (parts_bytes image n ++ (part_bytes image n ++ rest))) ≡ part_bytes image k
      by_place true e before =
          let last = eqb-true k n e in
          ap (take 8) (drop_at (parts_bytes image n) (part_bytes image n ++ rest) (8 * k) (omega (arith, parts-long n, last)))
          ∙ take_at (part_bytes image n) rest 8 (part-long n) ∙ ap (part_bytes image) (sym last)
      by_place false e before = let other = eqb-false k n e in before (omega arith)

  -- both answers of a payload that is there, from a call with room for all parts and from one with room for its own
  module _ (answer one : List ℕ) (k : ℕ) (e : parts_number image (length answer) ≡ 0) (h : k < (header_of image).count)
      (room : 8 ≤ length one) where
    of-all : take 8 (drop (8 * k) (parts_answer_after image answer)) ≡ part_bytes image k
    unfolding parts_answer_after
    of-all =
        let n = (header_of image).count in
        rw (eq-eqb (parts_number image (length answer)) 0 e)
        (ap (λ (s : List ℕ). take 8 (drop (8 * k) s)) (over-front answer (parts_bytes image n) (8 * n) (parts-long n))
        ∙ part_at n k h (drop (8 * n) answer))

    of_one : take 8 (part_answer_after image k one) ≡ part_bytes image k
    unfolding part_answer_after part_number
    of_one =
        let known = header-for 8 image (length answer) e in
        let there = ap (λ (p : Part). p.number) (part-there image k known.1 h) in
        rw (le-leb 8 (length one) room, eq-eqb (part_of image k).number 0 there)
        (ap (take 8) (over-front one (part_bytes image k) 8 (part-long k)) ∙ take_at (part_bytes image k) (drop 8 one) 8 (part-long k))

    pub parts-back : take 8 (drop (8 * k) (parts_answer_after image answer)) ≡ take 8 (part_answer_after image k one)
    parts-back = of-all ∙ sym of_one
