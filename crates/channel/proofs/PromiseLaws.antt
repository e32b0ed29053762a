-- What the code of a call cites: what is judged before any bit, in the order of the numbers; and how far the place of a refusal is at most.
-- Assumes nothing.
use Prim.Native.Nat.{ℕ, ◌≤◌}
use mathlib.Core.Path.{◌≡◌, sym, ◌∙◌}
use mathlib.Core.Bool.{Bool, true, false, ◌&&◌}
use mathlib.Core.List.{List, [], ◌∷◌}
use native.Mathlib.Omega.{arith}
use borrow.Author.Tests.{leb-true}
use lib.Dec.{leb}
use Rattle.bits.specs.Reader.{Answer, refused}
use Rattle.bits.specs.Payload.{Range, in_buffer, is_there, bytes_in, whole}
use Rattle.bits.specs.Calls.{◌or◌, first_refusal, first_number}
use Rattle.bits.specs.Sampling.{known_index}
use Rattle.bits.proofs.Bools.{and_both}
use Rattle.bits.proofs.CallLaws.{first-refused, first-passed, all-passed, range-in}
use Rattle.bits.proofs.Lawful.{same_place}
use Rattle.bits.proofs.NearLaws.{near-placed}
use Rattle.channel.specs.Stream.{Stream, stream}
use Rattle.channel.specs.Promise.{outputs_fit, channel_tests, channel}
use Rattle.channel.proofs.StreamLawful.{stream-lawful}
use Rattle.channel.proofs.StreamNear.{stream-near}

-- outputs that fit are long enough
pub outputs-room : (lines factors books : ℕ) → outputs_fit lines factors books ≡ true → (1024 ≤ lines) × (120 ≤ factors) × (120 ≤ books)
outputs-room lines factors books e =
    let a = and_both (leb 1024 lines && leb 120 factors) (leb 120 books) e in
    let b = and_both (leb 1024 lines) (leb 120 factors) a.0 in
    (leb-true _ _ b.0, leb-true _ _ b.1, leb-true _ _ a.1)

-- what is known past the judgement: the range lies in its buffer, and the outputs have room
pub judged-well : (size start end lines factors books index : ℕ) {room : Bool} {n : ℕ} → room ≡ outputs_fit lines factors books
    → n ≡ first_number (channel_tests (in_buffer start end size) room index) → n ≡ 0
    → (start ≤ end) × (end ≤ size) × (1024 ≤ lines) × (120 ≤ factors) × (120 ≤ books)
judged-well size start end lines factors books index {room} r e z =
    let passed = all-passed (channel_tests (in_buffer start end size) room index) tt (sym e ∙ z) in
    let there = range-in size start end passed.0 in
    let fit = outputs-room lines factors books (sym r ∙ passed.1.0) in
    (there.0, there.1, fit.0, fit.1, fit.2)

module _ (p : Range) (index : ℕ) (room : Bool) where
  pub channel-not : (n : ℕ) → n ≡ first_number (channel_tests (is_there p) room index) → (n ≡ 0 → ⊥) → channel p index room ≡ refused n 0
  unfolding channel
  channel-not n e h =
      let q = first-refused (channel_tests (is_there p) room index) (λ m. refused m 0) (whole (stream index) (bytes_in p)) (rw e at h) in
      q ∙ rw e

  pub channel-is : first_number (channel_tests (is_there p) room index) ≡ 0 → channel p index room ≡ whole (stream index) (bytes_in p)
  unfolding channel
  channel-is = first-passed (channel_tests (is_there p) room index) (λ m. refused m 0) (whole (stream index) (bytes_in p)) tt

-- a stream takes 4,750 bytes at most, and is read with one more in view
pub stream-placed : (index : ℕ) (s : List ℕ) (n place : ℕ) → whole (stream index) s ≡ refused n place → place ≤ 38008
stream-placed index s n place e = near-placed 4750 (stream index) (stream-near index) s (stream-lawful index) e

pub channel-placed : (p : Range) (index : ℕ) (room : Bool) (n place : ℕ) → channel p index room ≡ refused n place → place ≤ 38008
unfolding channel
channel-placed p index room n place = by_tests (is_there p) room (known_index index)
  where
    first : (m : ℕ) → ◌≡◌ {A = Answer Stream} (refused m 0) (refused n place) → place ≤ 38008
    first m e = let q = same_place {A = Stream} e in omega arith

    by_tests : (there room known : Bool)
        → first_refusal (there or 1 ∷ room or 2 ∷ known or 3 ∷ []) (λ m. refused m 0) (whole (stream index) (bytes_in p)) ≡ refused n place
        → place ≤ 38008
    by_tests true true true e = stream-placed index (bytes_in p) n place e
    by_tests true true false e = first 3 e
    by_tests true false known e = first 2 e
    by_tests false room known e = first 1 e
