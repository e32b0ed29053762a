-- Where a refusal stands: a success has the place 0; a place lies in what was read, or at its end, and how far it is at most; and a program
-- in C takes out of what comes back the number and the place that were put in.
-- Assumes nothing.
use Prim.Native.Nat.{ℕ, ◌*◌, ◌≤◌}
use mathlib.Core.Path.{◌≡◌, refl}
use mathlib.Core.List.{List, [], ◌∷◌}
use mathlib.Core.Bool.{Bool, true, false, ◌||◌}
use native.Mathlib.Omega.{arith}
use lib.ListN.{length}
use Rattle.bits.specs.Reader.{Answer, got, refused, pick}
use Rattle.bits.specs.Payload.{Range, is_there, bytes_in, whole}
use Rattle.bits.specs.Calls.{◌or◌, first_refusal, returned_of, number_in, place_in}
use Rattle.bits.specs.Sampling.{known_index}
use Rattle.bits.proofs.CallLaws.{number-kept, place_kept}
use Rattle.bits.proofs.Lawful.{same_place}
use Rattle.bits.proofs.PayloadLaws.{whole-got, whole-placed}
use Rattle.channel.specs.Stream.{Stream, stream}
use Rattle.channel.specs.Promise.{channel, reading_of}
use Rattle.channel.proofs.StreamLawful.{stream-lawful}
use Rattle.stereo.specs.State.{sound, lost}
use Rattle.stereo.specs.Payload.{payload}
use Rattle.stereo.specs.Restart.{restart}
use Rattle.stereo.specs.declared.State.{State}
use Rattle.stereo.specs.declared.Contents.{Contents}
use Rattle.stereo.proofs.PayloadLaws.{payload-lawful}
use Rattle.stereo_laws.proofs.PayloadNumbers.{whole-not_0}
use Rattle.stereo_reader.specs.Reading.{from, refusal, taken, read_bytes, read_from}
use Rattle.stereo_reader.specs.Reading as reading
use Rattle.stereo_reader.specs.declared.Reading.{Reading}
use Rattle.stereo_reader.proofs.ReadingLaws.{read-placed}
use Rattle.promises.specs.Refusals.{is_answered}
use Rattle.promises.proofs.Refusals.{answered-small}

-- of a stereo payload
module _ (st : State) (s : List ℕ) where
  taken-placed : (b : Bool) (bits : ℕ) (r : Reading) → r.place ≡ 0 → (pick b r (refusal 35 bits (lost st))).number ≡ 0
      → (pick b r (refusal 35 bits (lost st))).place ≡ 0
  taken-placed true bits r e z = e
  taken-placed false bits r e z = absurd (omega arith)

  -- what is accepted has the place 0
  pub accepted-placed : (read_bytes st s).number ≡ 0 → (read_bytes st s).place ≡ 0
  unfolding read_bytes taken
  accepted-placed = by_answer (whole (payload (from st)) s) refl
    where
      by_answer : (x : Answer Contents) → whole (payload (from st)) s ≡ x → (reading.reading_of st x).number ≡ 0
          → (reading.reading_of st x).place ≡ 0
      by_answer (got c bits) e = taken-placed (st.instep || restart c) bits _ refl
      by_answer (refused n place) e = λ z. absurd (whole-not_0 (from st) s n place e z)

  taken-inside : (b : Bool) (bits : ℕ) (r : Reading) → r.place ≡ 0 → bits ≤ 8 * length s
      → (pick b r (refusal 35 bits (lost st))).place ≤ 8 * length s
  taken-inside true bits r e h = omega arith
  taken-inside false bits r e h = h

  -- a place lies in the payload, or at its end
  pub bytes_inside : (read_bytes st s).place ≤ 8 * length s
  unfolding read_bytes taken
  bytes_inside = by_answer (whole (payload (from st)) s) refl
    where
      by_answer : (x : Answer Contents) → whole (payload (from st)) s ≡ x → (reading.reading_of st x).place ≤ 8 * length s
      by_answer (got c bits) e =
          let read = (whole-got (payload (from st)) s bits c e).0 in
          let end = (payload-lawful (from st)).accepts.within s 0 (8 * length s) bits c (omega arith) read in
          taken-inside (st.instep || restart c) bits _ refl end.1
      by_answer (refused n place) e = whole-placed (payload (from st)) (payload-lawful (from st)) s n place e

module _ (st : State) (p : Range) where
  abbrev read : Bool → Bool → Reading
  read a b = first_refusal (a or 1 ∷ b or 4 ∷ []) (λ n. refusal n 0 st) (read_bytes st (bytes_in p))

  -- so it does in a range of a buffer, and it is never further than 8,200 bits
  pub stereo-inside : ((read_from st p).place ≤ 8 * length (bytes_in p)) × ((read_from st p).place ≤ 8200)
  unfolding read_from
  stereo-inside = by_tests (is_there p) (sound st)
    where
      by_tests : (a b : Bool) → ((read a b).place ≤ 8 * length (bytes_in p)) × ((read a b).place ≤ 8200)
      by_tests true true = (bytes_inside st (bytes_in p), read-placed st (bytes_in p))
      by_tests true false = (omega arith, omega arith)
      by_tests false b = (omega arith, omega arith)

-- of a channel stream
pub channel-inside : (p : Range) (index : ℕ) (room : Bool) (n place : ℕ) → channel p index room ≡ refused n place
    → place ≤ 8 * length (bytes_in p)
unfolding channel
channel-inside p index room n place = by_tests (is_there p) room (known_index index)
  where
    first : (m : ℕ) → ◌≡◌ {A = Answer Stream} (refused m 0) (refused n place) → place ≤ 8 * length (bytes_in p)
    first m e = let q = same_place {A = Stream} e in omega arith

    by_tests : (a b c : Bool)
        → first_refusal (a or 1 ∷ b or 2 ∷ c or 3 ∷ []) (λ m. refused m 0) (whole (stream index) (bytes_in p)) ≡ refused n place
        → place ≤ 8 * length (bytes_in p)
    by_tests true true true e = whole-placed (stream index) (stream-lawful index) (bytes_in p) n place e
    by_tests true true false e = first 3 e
    by_tests true false c e = first 2 e
    by_tests false b c e = first 1 e

-- what comes back to a program in C, of an answer whose number is of the table: nothing is lost
pub answer-kept : (x : Answer Stream) → is_answered (reading_of x).number ≡ true
    → (number_in (returned_of x) ≡ (reading_of x).number) × (place_in (returned_of x) ≡ (reading_of x).place)
answer-kept (got x bits) h = (refl, refl)
answer-kept (refused n place) h = let small = answered-small n h in (number-kept n place small, place_kept n place small)
