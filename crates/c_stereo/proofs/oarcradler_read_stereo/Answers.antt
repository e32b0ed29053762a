-- What is judged before any bit, then the reader's answer, told in bytes; where nothing was refused before the first bit, the range lies in
-- the buffer, the state is sound and the answer has room.
-- Assumes nothing.
use Prim.Native.Nat.{◌≤◌}
use mathlib.Core.Path.{◌≡◌, sym, ap, ◌∙◌}
use mathlib.Core.Bool.{true}
use native.Mathlib.Omega.{arith}
use lib.ListN.{length}
use Rattle.bits.specs.Calls.{first_number}
use Rattle.bits.specs.Payload.{bytes_in}
use Rattle.stereo.specs.declared.State.{State}
use Rattle.stereo_reader.specs.Reading.{read_bytes}
use Rattle.c_layout.specs.StateBytes.{sound_bytes}
use Rattle.c_layout.proofs.StateLaws.{sound-long}
use Rattle.c_stereo.specs.ReadStereo.{Call, tests_of, stereo_reading}
use Rattle.c_stereo.proofs.Passed.{stereo-passed}
use Rattle.c_stereo.proofs.StereoLaws.{call-refused, place_short, read_told}
use Rattle.c_stereo.proofs.oarcradler_read_stereo.Goals as goal

pub returns-then-number-ne0 : goal.returns-then-number-ne0
returns-then-number-ne0 c =
    let given : Call = let a = c.args in
    record {
      state = a.state.now;
      payload = record { bytes = a.buf.now; start = a.start; end = a.end };
      answer = a.answer.now;
    } in
    let j = c.stereo_refusal-number in
    call-refused given j.result j.ensures c.if-number-ne0.true

pub state_at-before-requires : goal.state_at-before-requires
state_at-before-requires c =
    let given : Call = let a = c.args in
    record {
      state = a.state.now;
      payload = record { bytes = a.buf.now; start = a.start; end = a.end };
      answer = a.answer.now;
    } in
    -- past the first test nothing was refused before the first bit
    let unrefused : first_number (tests_of given) ≡ 0 = let j = c.stereo_refusal-number in
    ◌∙◌ {b = j.result} (sym j.ensures) c.if-number-ne0.false in
    -- so the answer has room, the state is sound, and the range lies in the buffer
    let passed : let a = c.args in
    (582 ≤ length a.answer.now) × (sound_bytes a.state.now ≡ true) × (a.start ≤ a.end) × (a.end ≤ length a.buf.now) =
    stereo-passed _ _ _ _ _ unrefused in
    -- and a sound state has its bytes
    let long : 146 ≤ length c.args.state.now = sound-long _ passed.1 in
    long

pub slice_bounds-read_bytes-count : goal.slice_bounds-read_bytes-count
slice_bounds-read_bytes-count c =
    let given : Call = let a = c.args in
    record {
      state = a.state.now;
      payload = record { bytes = a.buf.now; start = a.start; end = a.end };
      answer = a.answer.now;
    } in
    -- past the first test nothing was refused before the first bit
    let unrefused : first_number (tests_of given) ≡ 0 = let j = c.stereo_refusal-number in
    ◌∙◌ {b = j.result} (sym j.ensures) c.if-number-ne0.false in
    -- so the answer has room, the state is sound, and the range lies in the buffer
    let passed : let a = c.args in
    (582 ≤ length a.answer.now) × (sound_bytes a.state.now ≡ true) × (a.start ≤ a.end) × (a.end ≤ length a.buf.now) =
    stereo-passed _ _ _ _ _ unrefused in
    omega (arith, passed.2, passed.3)

pub slice_bounds-read_bytes-start : goal.slice_bounds-read_bytes-start
slice_bounds-read_bytes-start c =
    let given : Call = let a = c.args in
    record {
      state = a.state.now;
      payload = record { bytes = a.buf.now; start = a.start; end = a.end };
      answer = a.answer.now;
    } in
    -- past the first test nothing was refused before the first bit
    let unrefused : first_number (tests_of given) ≡ 0 = let j = c.stereo_refusal-number in
    ◌∙◌ {b = j.result} (sym j.ensures) c.if-number-ne0.false in
    -- so the answer has room, the state is sound, and the range lies in the buffer
    let passed : let a = c.args in
    (582 ≤ length a.answer.now) × (sound_bytes a.state.now ≡ true) × (a.start ≤ a.end) × (a.end ≤ length a.buf.now) =
    stereo-passed _ _ _ _ _ unrefused in
    omega (arith, passed.2, passed.3)

pub slice_bounds-read_bytes-end : goal.slice_bounds-read_bytes-end
slice_bounds-read_bytes-end c =
    let given : Call = let a = c.args in
    record {
      state = a.state.now;
      payload = record { bytes = a.buf.now; start = a.start; end = a.end };
      answer = a.answer.now;
    } in
    -- past the first test nothing was refused before the first bit
    let unrefused : first_number (tests_of given) ≡ 0 = let j = c.stereo_refusal-number in
    ◌∙◌ {b = j.result} (sym j.ensures) c.if-number-ne0.false in
    -- so the answer has room, the state is sound, and the range lies in the buffer
    let passed : let a = c.args in
    (582 ≤ length a.answer.now) × (sound_bytes a.state.now ≡ true) × (a.start ≤ a.end) × (a.end ≤ length a.buf.now) =
    stereo-passed _ _ _ _ _ unrefused in
    omega (arith, passed.2, passed.3)

pub told-requires : goal.told-requires
told-requires c =
    let given : Call = let a = c.args in
    record {
      state = a.state.now;
      payload = record { bytes = a.buf.now; start = a.start; end = a.end };
      answer = a.answer.now;
    } in
    -- past the first test nothing was refused before the first bit
    let unrefused : first_number (tests_of given) ≡ 0 = let j = c.stereo_refusal-number in
    ◌∙◌ {b = j.result} (sym j.ensures) c.if-number-ne0.false in
    -- so the answer has room, the state is sound, and the range lies in the buffer
    let passed : let a = c.args in
    (582 ≤ length a.answer.now) × (sound_bytes a.state.now ≡ true) × (a.start ≤ a.end) × (a.end ≤ length a.buf.now) =
    stereo-passed _ _ _ _ _ unrefused in
    -- and a sound state has its bytes
    let long : 146 ≤ length c.args.state.now = sound-long _ passed.1 in
    -- the reader's answer is the one of the definition
    let answer : c.read_bytes-r.result ≡ stereo_reading given = c.read_bytes-r.ensures
    ∙ ap (λ (st : State). read_bytes st (bytes_in given.payload)) c.state_at-before.ensures in
    let read = c in
    let t = read in
    (long, passed.0, place_short given _ answer)

pub returns : goal.returns
returns c =
    let given : Call = let a = c.args in
    record {
      state = a.state.now;
      payload = record { bytes = a.buf.now; start = a.start; end = a.end };
      answer = a.answer.now;
    } in
    -- past the first test nothing was refused before the first bit
    let unrefused : first_number (tests_of given) ≡ 0 = let j = c.stereo_refusal-number in
    ◌∙◌ {b = j.result} (sym j.ensures) c.if-number-ne0.false in
    -- the reader's answer is the one of the definition
    let answer : c.read_bytes-r.result ≡ stereo_reading given = c.read_bytes-r.ensures
    ∙ ap (λ (st : State). read_bytes st (bytes_in given.payload)) c.state_at-before.ensures in
    let told = c in
    let read = told in
    let t = read in
    let e = told.told.ensures in
    read_told given unrefused _ answer _ _ _ e.0 e.1.0 e.1.1
