-- What every call judges, and then the state.
-- Assumes nothing.
use mathlib.Core.Path.{sym, ◌∙◌}
use lib.Dec.{leb}
use Rattle.bits.specs.Payload.{in_buffer}
use Rattle.c_layout.specs.StateBytes.{sound_bytes}
use Rattle.bits.specs.Calls.{call_tests}
use Rattle.bits.proofs.CallLaws.{all-passed}
use Rattle.c_stereo.proofs.Passed.{still_refused}
use Rattle.c_stereo.proofs.stereo_refusal.Goals as goal

pub returns-then-number-ne0 : goal.returns-then-number-ne0
returns-then-number-ne0 c =
    let j = c.call_refusal-number in
    let a = c.args in
    still_refused (in_buffer a.start a.end a.size) (leb 582 a.room) (sound_bytes a.state.now) j.result j.ensures
    c.if-number-ne0.true

pub returns-then-not-is_sound_at : goal.returns-then-not-is_sound_at
returns-then-not-is_sound_at c =
    let j = c in
    let a = j.args in
    let tests = call_tests (in_buffer a.start a.end a.size) 582 a.room in
    let passed = all-passed tests tt (sym j.call_refusal-number.ensures ∙ c.if-number-ne0.false) in
    rw (passed.0, passed.1.0, sym c.is_sound_at.ensures ∙ c.if-not-is_sound_at.true)

pub returns : goal.returns
returns c =
    let j = c in
    let a = j.args in
    let tests = call_tests (in_buffer a.start a.end a.size) 582 a.room in
    let passed = all-passed tests tt (sym j.call_refusal-number.ensures ∙ c.if-number-ne0.false) in
    rw (passed.0, passed.1.0, sym c.is_sound_at.ensures ∙ c.if-not-is_sound_at.false)
