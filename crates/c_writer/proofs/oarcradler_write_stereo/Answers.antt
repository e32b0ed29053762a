-- The call ends in one of three ways, and `WriteLaws` says of each what its definition gives.
-- Assumes nothing.
use Prim.Native.Nat.{◌≤◌}
use mathlib.Core.Path.{◌≡◌, sym, ap, ap₂, ◌∙◌}
use mathlib.Core.Bool.{true}
use native.Mathlib.Omega.{arith}
use lib.ListN.{length}
use Rattle.stereo.specs.declared.State.{State}
use Rattle.stereo.specs.declared.Contents.{Contents}
use Rattle.stereo_writer.specs.Writing.{writing, written_over}
use Rattle.stereo_writer.specs.declared.Written.{Written}
use Rattle.bits.specs.Bytes.{over}
use Rattle.c_layout.specs.StateBytes.{state_bytes, sound_bytes, state_at}
use Rattle.c_layout.specs.ContentsBytes.{contents_at}
use Rattle.bits.specs.Calls.{first_number}
use Rattle.c_writer.specs.WriteStereo.{Call, write_tests, stereo_writing}
use Rattle.c_layout.proofs.StateLaws.{sound-long, sound-parts}
use Rattle.c_writer.proofs.Passed.{write-passed}
use Rattle.c_writer.proofs.WriteLaws.{call-refused, written, contents-refused, accepted}
use borrow.Author.Rules.{rules}
use Rattle.c_writer.proofs.oarcradler_write_stereo.Goals as goal

pub returns-then-number-ne0 : goal.returns-then-number-ne0
returns-then-number-ne0 c =
    let given : Call = let a = c.args in
    record { state = a.state.now; contents = a.contents.now; out = a.out.now; answer = a.answer.now } in
    let j = c in
    call-refused given j.write_refusal-number.result j.write_refusal-number.ensures
    c.if-number-ne0.true

pub state_at-before-requires : goal.state_at-before-requires
state_at-before-requires c =
    -- past the first test nothing was refused before the contents are written
    let unrefused : let a = c.args in first_number (write_tests a.state.now (length a.contents.now) (length a.answer.now)) ≡ 0 =
    sym c.write_refusal-number.ensures ∙ c.if-number-ne0.false in
    -- so the state is sound, and the contents and the answer have their bytes
    let passed : let a = c.args in
    (sound_bytes a.state.now ≡ true) × (582 ≤ length a.contents.now) × (4 ≤ length a.answer.now) = write-passed _ _ _ unrefused in
    sound-long _ passed.0

pub contents_at-wanted-requires : goal.contents_at-wanted-requires
contents_at-wanted-requires c =
    -- past the first test nothing was refused before the contents are written
    let unrefused : let a = c.args in first_number (write_tests a.state.now (length a.contents.now) (length a.answer.now)) ≡ 0 =
    sym c.write_refusal-number.ensures ∙ c.if-number-ne0.false in
    -- so the state is sound, and the contents and the answer have their bytes
    let passed : let a = c.args in
    (sound_bytes a.state.now ≡ true) × (582 ≤ length a.contents.now) × (4 ≤ length a.answer.now) = write-passed _ _ _ unrefused in
    passed.1

pub write_sound-w-requires : goal.write_sound-w-requires
write_sound-w-requires c =
    -- past the first test nothing was refused before the contents are written
    let unrefused : let a = c.args in first_number (write_tests a.state.now (length a.contents.now) (length a.answer.now)) ≡ 0 =
    sym c.write_refusal-number.ensures ∙ c.if-number-ne0.false in
    -- so the state is sound, and the contents and the answer have their bytes
    let passed : let a = c.args in
    (sound_bytes a.state.now ≡ true) × (582 ≤ length a.contents.now) × (4 ≤ length a.answer.now) = write-passed _ _ _ unrefused in
    let before = c in
    rw before.state_at-before.ensures (sound-parts _ passed.0).state

pub returns-then-w-ne0 : goal.returns-then-w-ne0
returns-then-w-ne0 c =
    let given : Call = let a = c.args in
    record { state = a.state.now; contents = a.contents.now; out = a.out.now; answer = a.answer.now } in
    -- the writer's answer, and the output
    let wrote : (c.write_sound-w.result ≡ stereo_writing given) × (c.write_sound-w.new.out ≡ written given) = let wanted = c in
    let a = c.args in
    let before = state_at a.state.now in
    let sent = contents_at a.contents.now in
    let st : wanted.state_at-before.result ≡ before = wanted.state_at-before.ensures in
    let cs : wanted.contents_at-wanted.result ≡ sent = wanted.contents_at-wanted.ensures in
    let out = a.out.now in
    let r = c.write_sound-w.ensures.0 ∙ ap₂ (λ (x : State) (y : Contents). writing x y (length out)) st cs in
    let over : (z : Written) → z ≡ writing before sent (length out)
    → written_over z wanted.state_at-before.result wanted.contents_at-wanted.result out
    ≡ written_over (writing before sent (length out)) before sent out =
    λ z e. ap₂ (λ (x : State) (y : Contents). written_over z x y out) st cs ∙ ap (λ (u : Written). written_over u before sent out) e in
    (r, c.write_sound-w.ensures.1 ∙ over c.write_sound-w.result r) in
    -- past the first test nothing was refused before the contents are written
    let unrefused : let a = c.args in first_number (write_tests a.state.now (length a.contents.now) (length a.answer.now)) ≡ 0 =
    sym c.write_refusal-number.ensures ∙ c.if-number-ne0.false in
    let r = wrote.0 in
    let ends = contents-refused given unrefused (rw r at c.if-w-ne0.true) in
    (ap (λ (z : Written). z.number) r ∙ ends.0, (ends.1.0, (wrote.1 ∙ ends.1.1.0, ends.1.1.1)))

pub put_state-requires : goal.put_state-requires
put_state-requires c =
    -- past the first test nothing was refused before the contents are written
    let unrefused : let a = c.args in first_number (write_tests a.state.now (length a.contents.now) (length a.answer.now)) ≡ 0 =
    sym c.write_refusal-number.ensures ∙ c.if-number-ne0.false in
    -- so the state is sound, and the contents and the answer have their bytes
    let passed : let a = c.args in
    (sound_bytes a.state.now ≡ true) × (582 ≤ length a.contents.now) × (4 ≤ length a.answer.now) = write-passed _ _ _ unrefused in
    sound-long _ passed.0

pub put-requires : goal.put-requires
put-requires c =
    -- past the first test nothing was refused before the contents are written
    let unrefused : let a = c.args in first_number (write_tests a.state.now (length a.contents.now) (length a.answer.now)) ≡ 0 =
    sym c.write_refusal-number.ensures ∙ c.if-number-ne0.false in
    -- so the state is sound, and the contents and the answer have their bytes
    let passed : let a = c.args in
    (sound_bytes a.state.now ≡ true) × (582 ≤ length a.contents.now) × (4 ≤ length a.answer.now) = write-passed _ _ _ unrefused in
    let four : length c.word_of-bits.result ≡ 4 = search rules in
    omega (arith, passed.2)

pub returns : goal.returns
returns c =
    let given : Call = let a = c.args in
    record { state = a.state.now; contents = a.contents.now; out = a.out.now; answer = a.answer.now } in
    -- the writer's answer, and the output
    let wrote : (c.write_sound-w.result ≡ stereo_writing given) × (c.write_sound-w.new.out ≡ written given) = let wanted = c in
    let a = c.args in
    let before = state_at a.state.now in
    let sent = contents_at a.contents.now in
    let st : wanted.state_at-before.result ≡ before = wanted.state_at-before.ensures in
    let cs : wanted.contents_at-wanted.result ≡ sent = wanted.contents_at-wanted.ensures in
    let out = a.out.now in
    let r = c.write_sound-w.ensures.0 ∙ ap₂ (λ (x : State) (y : Contents). writing x y (length out)) st cs in
    let over : (z : Written) → z ≡ writing before sent (length out)
    → written_over z wanted.state_at-before.result wanted.contents_at-wanted.result out
    ≡ written_over (writing before sent (length out)) before sent out =
    λ z e. ap₂ (λ (x : State) (y : Contents). written_over z x y out) st cs ∙ ap (λ (u : Written). written_over u before sent out) e in
    (r, c.write_sound-w.ensures.1 ∙ over c.write_sound-w.result r) in
    -- past the first test nothing was refused before the contents are written
    let unrefused : let a = c.args in first_number (write_tests a.state.now (length a.contents.now) (length a.answer.now)) ≡ 0 =
    sym c.write_refusal-number.ensures ∙ c.if-number-ne0.false in
    let bits = c in
    let put = bits in
    let w = put in
    let a = w.args in
    let r = wrote.0 in
    let ends = accepted given unrefused (rw r at put.if-w-ne0.false) in (
      ends.0,
      (
        put.put_state.ensures ∙ ap (λ (z : Written). over a.state.now 0 (state_bytes z.state)) r ∙ ends.1.0,
        (
          wrote.1 ∙ ends.1.1.0,
          bits.put.ensures ∙ rw (bits.word_of-bits.ensures, r) ends.1.1.1,
        ),
      ),
    )
