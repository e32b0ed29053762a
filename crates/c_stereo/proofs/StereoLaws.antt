-- The two ways in which a call of the stereo reader ends: it is refused before any bit, or what comes back and what is lent are those of
-- the reading.
-- Assumes nothing.
use Prim.Native.Nat.{ℕ, ◌<◌}
use mathlib.Core.Path.{◌≡◌, sym, ap, ◌∙◌}
use mathlib.Core.List.{List}
use native.Mathlib.Omega.{arith}
use Rattle.bits.specs.Payload.{bytes_in}
use Rattle.bits.specs.Calls.{first_number, returned, answered}
use Rattle.bits.proofs.CallLaws.{first-refused, first-passed}
use Rattle.stereo_reader.proofs.ReadingLaws.{read-placed}
use Rattle.stereo_reader.specs.declared.Reading.{Reading}
use Rattle.c_layout.specs.StateBytes.{state_at}
use Rattle.c_layout.specs.ContentsBytes.{answer_bytes}
use Rattle.c_stereo.specs.ReadStereo.{Call, tests_of, stereo_reading, stereo_returned, moved_on, stereo_state_after, stereo_answer_after}
use Rattle.c_stereo.specs.ReadStereo.{ReadStereoPromise}

module _ (c : Call) where
  pub call-refused : (n : ℕ) → n ≡ first_number (tests_of c) → (n ≡ 0 → ⊥) → ReadStereoPromise c n c.state c.answer
  unfolding stereo_returned stereo_state_after stereo_answer_after
  call-refused n e h =
      let told : first_number (tests_of c) ≡ 0 → ⊥ = rw e at h in (
        e ∙ sym (first-refused (tests_of c) (λ m. m) _ told),
        (sym (first-refused (tests_of c) (λ m. c.state) _ told), sym (first-refused (tests_of c) (λ m. c.answer) _ told)),
      )

  -- the place of a refusal leaves room for its number
  pub place_short : (r : Reading) → r ≡ stereo_reading c → r.place < 16777216
  place_short r er =
      let same = ap (λ (y : Reading). y.place) er in
      omega (arith, read-placed (state_at c.state) (bytes_in c.payload))

  -- past the tests, what comes back and what is lent are those of the reading
  module _ (e : first_number (tests_of c) ≡ 0) (r : Reading) (er : r ≡ stereo_reading c) where
    pub read_told : (n : ℕ) (state told : List ℕ) → n ≡ returned r.number r.place → state ≡ moved_on c.state r
        → told ≡ answered r.number (answer_bytes r.bits r.contents) c.answer → ReadStereoPromise c n state told
    unfolding stereo_returned stereo_state_after stereo_answer_after
    read_told n state told en es et = (
      en ∙ rw er (sym (first-passed (tests_of c) (λ m. m) _ tt e)),
      (
        es ∙ rw er (sym (first-passed (tests_of c) (λ m. c.state) _ tt e)),
        et ∙ rw er (sym (first-passed (tests_of c) (λ m. c.answer) _ tt e)),
      ),
    )
