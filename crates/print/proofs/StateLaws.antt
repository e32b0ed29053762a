-- The state that goes along: before the first payload, and one payload on.
-- Assumes nothing.
use Prim.Native.Nat.{ℕ, ◌+◌}
use mathlib.Core.Path.{◌≡◌, refl}
use mathlib.Core.List.{List}
use mathlib.Core.Bool.{Bool, true, false}
use Rattle.stereo.specs.State.{fresh}
use Rattle.image.specs.Image.{header_of, bytes_of}
use Rattle.image_outline.specs.Answers.{state_before}
use Rattle.image_outline.proofs.OutlineLaws.{sound_header, state-more}
use Rattle.print.specs.InnerStates.{printed_from, printed_after}

pub state-first : (full : Bool) (s : List ℕ) → fresh ≡ printed_from full s 0
unfolding state_before
state-first true s = refl
state-first false s = refl

pub state-next : (full : Bool) (s : List ℕ) (count index k : ℕ) → header_of s ≡ sound_header count index
    → printed_after full (printed_from full s k) k (bytes_of s k) ≡ printed_from full s (k + 1)
state-next true s count index k h = state-more s count index k h
state-next false s count index k h = refl
