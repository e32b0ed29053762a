-- Every proper prefix of a sound image is refused with 5: its header is cut off, or the last offset is not its length.
-- Assumes nothing.
use Prim.Native.Nat.{ℕ, ◌+◌, ◌*◌, ◌<◌}
use mathlib.Core.Path.{◌≡◌, refl, sym, ◌∙◌, ap}
use mathlib.Core.List.{List}
use mathlib.Core.Bool.{Bool, true, false}
use native.Mathlib.Omega.{arith}
use lib.ListN.{length, take}
use lib.Seq.{get_or-take, length-take-le}
use Rattle.image.specs.Image.{pair_at, count_of, offset_of, sound_image, refused_header, header_of}
use Rattle.image.proofs.ImageLaws.{Sound, sound_facts}

-- a pair that is not cut off
pair_kept : (s : List ℕ) (k i : ℕ) → i + 1 < k → pair_at (take k s) i ≡ pair_at s i
unfolding pair_at
pair_kept s k i h = rw (get_or-take k s i 0 (omega arith), get_or-take k s (i + 1) 0 h)

module _ (s : List ℕ) (k : ℕ) (whole : Sound s) (h : k < length s) where
  not_sound : Sound (take k s) → ⊥
  not_sound cut =
      let size : length (take k s) ≡ k = length-take-le k s (omega arith) in
      let room = cut.pairs in
      let count : count_of (take k s) ≡ count_of s = pair_kept s k 0 (omega arith) in
      let last = pair_kept s k (2 * count_of (take k s) + 4) (omega arith) in
      let other : offset_of s (count_of (take k s)) ≡ length s = ap (offset_of s) count ∙ whole.last in
      let short : k ≡ length s = sym (cut.last ∙ size) ∙ last ∙ other in
      absurd (omega arith)

  sound-by : (b : Bool) → sound_image (take k s) ≡ b → sound_image (take k s) ≡ false
  sound-by true e = absurd (not_sound (sound_facts (take k s) e))
  sound-by false e = e

pub prefix_is_5 : (s : List ℕ) (k : ℕ) → sound_image s ≡ true → k < length s → header_of (take k s) ≡ refused_header 5
unfolding header_of
prefix_is_5 s k e h = rw (sound-by s k (sound_facts s e) h (sound_image (take k s)) refl)
