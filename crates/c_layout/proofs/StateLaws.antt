-- What is known of bytes that stand for a sound state.
-- Assumes nothing.
use Prim.Native.Nat.{ℕ, ◌≤◌}
use mathlib.Core.Path.{◌≡◌}
use mathlib.Core.List.{List}
use mathlib.Core.Bool.{Bool, true, ◌&&◌}
use borrow.Author.Tests.{leb-true, le-leb}
use lib.Dec.{leb}
use lib.ListN.{length, get_or}
use Rattle.bits.proofs.Bools.{and_both, and_of}
use Rattle.stereo.specs.State.{sound}
use Rattle.c_layout.specs.StateBytes.{is_flag, state_at, sound_bytes}

abbrev pub flagged : List ℕ → Bool
flagged s = is_flag (get_or s 0 0) && is_flag (get_or s 1 0) && is_flag (get_or s 2 0) && is_flag (get_or s 5 0)

-- they are all there, each flag is one, and the state is sound
pub record SoundParts (s : List ℕ) : Type 0 where
  pub long : 146 ≤ length s
  pub flags : flagged s ≡ true
  pub state : sound (state_at s) ≡ true

pub sound-parts : (s : List ℕ) → sound_bytes s ≡ true → SoundParts s
unfolding sound_bytes
sound-parts s e =
    let a = and_both (leb 146 (length s) && flagged s) (sound (state_at s)) e in
    let b = and_both (leb 146 (length s)) (flagged s) a.0 in
    record { long = leb-true 146 (length s) b.0; flags = b.1; state = a.1 }

pub sound_of : (s : List ℕ) → SoundParts s → sound_bytes s ≡ true
unfolding sound_bytes
sound_of s p =
    and_of (leb 146 (length s) && flagged s) (sound (state_at s)) (and_of (leb 146 (length s)) (flagged s) (le-leb _ _ p.long) p.flags)
    p.state

pub sound-long : (s : List ℕ) → sound_bytes s ≡ true → 146 ≤ length s
sound-long s e = (sound-parts s e).long
