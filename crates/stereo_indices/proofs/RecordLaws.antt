-- The soundness of a record, index by index.
-- Assumes nothing.
use Prim.Native.Nat.{ℕ, ◌+◌, ◌<◌}
use mathlib.Core.Path.{◌≡◌, refl, sym, ◌∙◌, ap}
use mathlib.Core.List.{List}
use mathlib.Core.Bool.{Bool, true, false, ◌&&◌}
use native.Mathlib.Numerals.{add-one}
use lib.ListN.{length, drop, get_or}
use lib.Seq.{drop-cons, drop-length}
use lib.IntN.{ℤ, pos}
use Rattle.stereo_indices.specs.Record.{sound_index, sound_from}
use Rattle.stereo_indices.specs.declared.Kind.{Kind}

module _ (k : Kind) (mode i : ℕ) (xs : List ℤ) where
  -- one index, and those after it
  sound-next : i < length xs
      → sound_from k mode i (drop i xs) ≡ sound_index k mode i (get_or xs i (pos 0)) && sound_from k mode (i + 1) (drop (i + 1) xs)
  unfolding sound_from
  sound-next h = rw (drop-cons xs i (pos 0) h, add-one)

  -- one index more is known
  pub sound_more : (sound : Bool) → i < length xs
      → (sound && sound_from k mode i (drop i xs))
      ≡ ((sound && sound_index k mode i (get_or xs i (pos 0))) && sound_from k mode (i + 1) (drop (i + 1) xs))
  sound_more true h = sound-next h
  sound_more false h = refl

  -- all are
  pub sound-done : (sound : Bool) → length xs ≡ i → (sound && sound_from k mode i (drop i xs)) ≡ sound
  unfolding sound_from
  sound-done true e = ap (λ (ys : List ℤ). sound_from k mode i ys) (ap (λ (n : ℕ). drop n xs) (sym e) ∙ drop-length xs)
  sound-done false e = refl
