-- The three ways in which a call of the stereo writer ends.
-- Assumes nothing.
use Prim.Native.Nat.{ℕ}
use mathlib.Core.Path.{◌≡◌, sym, ◌∙◌}
use mathlib.Core.List.{List}
use mathlib.Core.Bool.{true, false}
use borrow.Author.Tests.{eq-eqb, ne_eqb}
use lib.Dec.{eqb}
use Rattle.stereo_writer.specs.Writing.{written_over}
use Rattle.bits.specs.Bytes.{word_of, over}
use Rattle.bits.specs.Calls.{first_number}
use Rattle.bits.proofs.CallLaws.{first-refused, first-passed}
use Rattle.c_layout.specs.StateBytes.{state_bytes, state_at}
use Rattle.c_layout.specs.ContentsBytes.{contents_at}
use Rattle.c_writer.specs.WriteStereo.{Call, tests_of, stereo_writing, write_number, write_state_after, write_output_after}
use Rattle.c_writer.specs.WriteStereo.{write_answer_after, WriteStereoPromise}

module _ (c : Call) where
  pub call-refused : (n : ℕ) → n ≡ first_number (tests_of c) → (n ≡ 0 → ⊥) → WriteStereoPromise c n c.state c.out c.answer
  unfolding write_number write_state_after write_output_after write_answer_after
  call-refused n e h =
      let told : first_number (tests_of c) ≡ 0 → ⊥ = rw e at h in
      let number = first-refused (tests_of c) (λ m. m) (stereo_writing c).number told in
      let no = ne_eqb (first_number (tests_of c)) 0 told in (
        e ∙ sym number,
        (rw (number, no), (sym (first-refused (tests_of c) (λ m. c.out) _ told), rw (number, no))),
      )

  -- the output after the writer
  abbrev pub written : List ℕ
  written = written_over (stereo_writing c) (state_at c.state) (contents_at c.contents) c.out

  module _ (e : first_number (tests_of c) ≡ 0) where
    number_is : write_number c ≡ (stereo_writing c).number
    unfolding write_number
    number_is = first-passed (tests_of c) (λ m. m) (stereo_writing c).number tt e

    output-is : written ≡ write_output_after c
    unfolding write_output_after
    output-is = sym (first-passed (tests_of c) (λ m. c.out) written tt e)

    pub contents-refused : ((stereo_writing c).number ≡ 0 → ⊥)
        → WriteStereoPromise c (stereo_writing c).number c.state written c.answer
    unfolding write_state_after write_answer_after
    contents-refused h =
        let no : eqb (stereo_writing c).number 0 ≡ false = ne_eqb _ 0 h in
        (sym number_is, (rw (number_is, no), (output-is, rw (number_is, no))))

    pub accepted : (stereo_writing c).number ≡ 0
        → WriteStereoPromise c 0 (over c.state 0 (state_bytes (stereo_writing c).state)) written
        (over c.answer 0 (word_of (stereo_writing c).bits))
    unfolding write_state_after write_answer_after
    accepted h =
        let yes : eqb (stereo_writing c).number 0 ≡ true = eq-eqb _ 0 h in
        (sym h ∙ sym number_is, (rw (number_is, yes), (output-is, rw (number_is, yes))))
