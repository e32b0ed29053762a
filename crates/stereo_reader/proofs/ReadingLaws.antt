-- Laws of the stereo reader: no byte outside the range counts; a cut is refused with 10, in step and out of step; a report leaves a
-- sound state.
-- Assumes nothing.
use Prim.Native.Nat.{ℕ, ◌*◌, ◌<◌, ◌≤◌}
use mathlib.Core.Path.{◌≡◌, refl, ◌∙◌}
use mathlib.Core.Bool.{Bool, true, false, ◌||◌}
use native.Mathlib.Omega.{arith}
use mathlib.Core.List.{List}
use lib.ListN.{take}
use Rattle.bits.specs.Reader.{Answer, got, refused, pick}
use Rattle.bits.specs.Payload.{Range, is_there, bytes_in, whole}
use Rattle.bits.proofs.NearLaws.{near-placed}
use Rattle.bits.proofs.PayloadLaws.{whole-got}
use Rattle.stereo.specs.State.{sound, lost}
use Rattle.stereo.specs.Payload.{payload}
use Rattle.stereo_reader.specs.Reading.{from, refusal, taken, reading_of, read_bytes, read_from, missing}
use Rattle.stereo_reader.specs.declared.Reading.{Reading}
use Rattle.stereo.specs.declared.State.{State}
use Rattle.stereo.specs.declared.Contents.{Contents}
use Rattle.stereo.proofs.PayloadLaws.{payload_cut, payload-lawful}
use Rattle.stereo.proofs.PayloadNear.{payload-near}
use Rattle.stereo.specs.Restart.{restart}
use Rattle.stereo.proofs.StateLaws.{lost-sound}

-- two ranges of the same bytes are read alike, whatever stands around them
pub outside_counts_not : (st : State) (p q : Range) → is_there p ≡ true → is_there q ≡ true → bytes_in p ≡ bytes_in q
    → read_from st p ≡ read_from st q
unfolding read_from
outside_counts_not st p q a b e = rw (a, b, e)

-- a payload that was read, cut so that fewer bits are there than it used: 10, at some place, and only the mark is touched
pub read-cut : (st : State) (s : List ℕ) (next : ℕ) (c : Contents) (k : ℕ) → whole (payload (from st)) s ≡ got c next → 8 * k < next
    → (place : ℕ) × (read_bytes st (take k s) ≡ refusal 10 place (lost st))
unfolding read_bytes
read-cut st s next c k e h = let w = payload_cut (from st) s next c k e h in (w.0, rw w.1)

-- a payload takes 1,024 bytes at most, and is read with one more in view: no place is further
pub read-placed : (st : State) (s : List ℕ) → (read_bytes st s).place ≤ 8200
unfolding read_bytes taken
read-placed st s = by_answer (whole (payload (from st)) s) refl
  where
    by-mark : (b : Bool) (bits : ℕ) (r : Reading) → r.place ≡ 0 → bits ≤ 8200 → (pick b r (refusal 35 bits (lost st))).place ≤ 8200
    by-mark true bits r e h = omega arith
    by-mark false bits r e h = h

    by_answer : (x : Answer Contents) → whole (payload (from st)) s ≡ x → (reading_of st x).place ≤ 8200
    by_answer (got c bits) e =
        let near = (payload-near (from st)).law s 0 _ bits c (whole-got (payload (from st)) s bits c e).0 in
        by-mark (st.instep || restart c) bits _ refl (omega arith)
    by_answer (refused n place) e = near-placed 1024 (payload (from st)) (payload-near (from st)) s (payload-lawful (from st)) e

-- a report of a sound state leaves a sound state
pub missing-sound : (st : State) → sound st ≡ true → sound (missing st).state ≡ true
unfolding missing
missing-sound st h = rw h (lost-sound st ∙ h)
