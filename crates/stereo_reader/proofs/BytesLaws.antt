-- A payload's bytes, case by case, with the code's answer on the left; the code has at most 1,025 bytes in view.
-- Assumes nothing.
use Prim.Native.Nat.{ℕ, ◌*◌, ◌-◌, ◌<◌, ◌≤◌, min}
use mathlib.Core.Path.{◌≡◌}
use mathlib.Core.List.{List}
use lib.ListN.{length}
use Rattle.bits.specs.Reader.{got, refused}
use Rattle.stereo.specs.State.{lost}
use Rattle.stereo.specs.Payload.{payload}
use Rattle.stereo_reader.specs.Reading.{from, refusal, taken, read_bytes}
use Rattle.stereo.specs.declared.State.{State}
use Rattle.stereo.specs.declared.Contents.{Contents}
use Rattle.bits.proofs.NearLaws.{near-got, near-left, near-refused}
use Rattle.stereo.proofs.PayloadNear.{payload-near}

module _ (st : State) (s : List ℕ) where
  pub bytes_left : (c : Contents) (next : ℕ) → payload (from st) s 0 (8 * min (length s) 1025) ≡ got c next
      → 7 < 8 * min (length s) 1025 - next
      → refusal 12 next (lost st) ≡ read_bytes st s
  unfolding read_bytes
  bytes_left c next q h = rw (near-left 1024 (payload (from st)) (payload-near (from st)) s q h)

  pub bytes-got : (c : Contents) (next : ℕ) → payload (from st) s 0 (8 * min (length s) 1025) ≡ got c next
      → 8 * min (length s) 1025 - next ≤ 7
      → taken st c next ≡ read_bytes st s
  unfolding read_bytes
  bytes-got c next q h = rw (near-got 1024 (payload (from st)) (payload-near (from st)) s q h)

  pub bytes-refused : (n place : ℕ) → payload (from st) s 0 (8 * min (length s) 1025) ≡ refused n place
      → refusal n place (lost st) ≡ read_bytes st s
  unfolding read_bytes
  bytes-refused n place q = rw (near-refused 1024 (payload (from st)) (payload-near (from st)) s q)
