-- A refused payload and a missing one leave, over bytes, what they leave of the state that the bytes stand for: only the mark is touched.
-- Assumes nothing.
use Prim.Native.Nat.{ℕ, ◌+◌, ◌<◌, ◌≤◌}
use mathlib.Core.Path.{◌≡◌}
use mathlib.Core.List.{List}
use native.Mathlib.Omega.{arith}
use lib.ListN.{length}
use lib.Seq.{get_or-set_same, get_or-set_other, drop-set-lt}
use Rattle.stereo.specs.State.{lost}
use Rattle.c_layout.specs.Indices.{indices_at}
use Rattle.c_layout.specs.StateBytes.{record_at, state_at}
use Rattle.c_stereo.specs.StateCalls.{lost_bytes}

module _ (s : List ℕ) where
  record-stays : (at : ℕ) → 5 < at → record_at (lost_bytes s) at ≡ record_at s at
  unfolding record_at indices_at
  record-stays at h = rw (get_or-set_other s 5 at 0 0 (λ e. absurd (omega arith)), drop-set-lt (at + 1) s 5 0 (omega arith))

  pub lost-bytes : 6 ≤ length s → state_at (lost_bytes s) ≡ lost (state_at s)
  unfolding state_at
  lost-bytes h =
      rw (
        record-stays 6 (omega arith),
        record-stays 41 (omega arith),
        record-stays 76 (omega arith),
        record-stays 111 (omega arith),
        get_or-set_same s 5 0 0 (omega arith),
        get_or-set_other s 5 0 0 0 (λ e. absurd (omega arith)),
        get_or-set_other s 5 1 0 0 (λ e. absurd (omega arith)),
        get_or-set_other s 5 2 0 0 (λ e. absurd (omega arith)),
        get_or-set_other s 5 3 0 0 (λ e. absurd (omega arith)),
        get_or-set_other s 5 4 0 0 (λ e. absurd (omega arith)),
      )
