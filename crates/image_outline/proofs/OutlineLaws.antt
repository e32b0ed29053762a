-- One payload more: its part, its row, the state after it.
-- Assumes nothing.
use Prim.Native.Nat.{ℕ, suc, ◌+◌, ◌<◌}
use mathlib.Core.Path.{◌≡◌, refl, sym, ap, ◌∙◌}
use mathlib.Core.List.{List, ◌++◌}
use native.Mathlib.Numerals.{add-one}
use Rattle.image.specs.Image.{header_of, part_of, bytes_of}
use Rattle.image.specs.declared.Header.{Header}
use Rattle.image.proofs.PartLaws.{place_of, part-there}
use Rattle.image_outline.specs.Answers.{state_from, state_before}
use Rattle.image_outline.specs.Outline.{row_from, row_of, rows_of}

-- the header of an image with this count and index
abbrev pub sound_header : ℕ → ℕ → Header
sound_header count index = record { number = 0; count = count; index = index }

pub sound-header : (h : Header) → h.number ≡ 0 → h ≡ sound_header h.count h.index
sound-header h e = ap (λ (n : ℕ). record { number = n; count = h.count; index = h.index }) e

module _ (s : List ℕ) (count index k : ℕ) (h : header_of s ≡ sound_header count index) where
  pub header-there : k < count → part_of s k ≡ place_of s k
  header-there b = part-there s k (ap (λ (x : Header). x.number) h) (rw h b)

  rows_next : rows_of s k ++ row_from (state_before s k) index k (bytes_of s k) ≡ rows_of s (suc k)
  unfolding rows_of row_of
  rows_next = rw h

  pub rows_more : rows_of s k ++ row_from (state_before s k) index k (bytes_of s k) ≡ rows_of s (k + 1)
  rows_more = rows_next ∙ ap (λ (n : ℕ). rows_of s n) (sym (add-one k))

  state-next : state_from (state_before s k) k (bytes_of s k) ≡ state_before s (suc k)
  unfolding state_before
  state-next = refl

  pub state-more : state_from (state_before s k) k (bytes_of s k) ≡ state_before s (k + 1)
  state-more = state-next ∙ ap (λ (n : ℕ). state_before s n) (sym (add-one k))
