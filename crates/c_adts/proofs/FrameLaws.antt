-- The two ways in which a call over a frame ends: it is refused before the frame is asked for, or what comes back and what is lent are
-- those of the frame.
-- Assumes nothing.
use Prim.Native.Nat.{ℕ, ◌<◌, ◌≤◌}
use mathlib.Core.Path.{◌≡◌, refl, sym, ap, ◌∙◌}
use mathlib.Core.List.{List, [], ◌∷◌}
use mathlib.Core.Bool.{Bool, true, false, ◌&&◌}
use native.Mathlib.Omega.{arith}
use borrow.Author.Tests.{ne_eqb, le-leb}
use lib.Dec.{leb}
use lib.ListN.{length}
use Rattle.bits.specs.Reader.{Answer, got, refused}
use Rattle.bits.specs.Packed.{bytes_for}
use Rattle.bits.specs.Payload.{in_buffer}
use Rattle.bits.specs.Calls.{◌or◌, first_number, call_tests, returned, returned_of}
use Rattle.bits.proofs.CallLaws.{call-room}
use Rattle.channel.specs.Stream.{Stream}
use Rattle.channel.specs.Promise.{Outputs, have_room, reading_of}
use Rattle.channel.specs.declared.Reading.{Reading}
use Rattle.adts.specs.Header.{Header}
use Rattle.adts.specs.Promise.{header_at, stream_at, framed, fitted}
use Rattle.adts.specs.Promise.{ReadFramePromise as Read, UnwrapPromise as Unwrap}
use Rattle.adts.specs.declared.Framed.{Framed}
use Rattle.adts_laws.proofs.FramePlaces.{frame-placed, fitted-placed}
use Rattle.c_channel.proofs.ChannelLaws.{returned-reading, reading-placed}
use Rattle.c_adts.specs.FrameBytes.{frame_answer_after}
use Rattle.c_adts.specs.ReadFrame as reading
use Rattle.c_adts.specs.UnwrapFrame as unwrapping

-- the reading of an answer, with or without a header
reading_in : (h : Answer Header) (q : Reading) → (framed h q).reading ≡ q
reading_in (got x next) q = refl
reading_in (refused n place) q = refl

module _ (h : Answer Header) (x : Answer Stream) (r : Framed) (e : r ≡ framed h (reading_of x)) where
  reading-is : r.reading ≡ reading_of x
  reading-is = ap (λ (z : Framed). z.reading) e ∙ reading_in h (reading_of x)

  -- the place of a refusal leaves room for its number
  short : ((n p : ℕ) → x ≡ refused n p → p ≤ 65528) → r.reading.place < 16777216
  short f =
      let same = ap (λ (y : Reading). y.place) reading-is in
      let near = reading-placed 65528 x f in
      omega arith

  module _ (answer : List ℕ) (n : ℕ) (en : n ≡ returned r.reading.number r.reading.place) where
    -- what comes back, and what the lent answer holds then
    abbrev Told : List ℕ → Type 0
    Told after = (n ≡ returned_of x) × (after ≡ frame_answer_after (framed h (reading_of x)) answer)

    comes_back : n ≡ returned_of x
    comes_back = en ∙ ap (λ (q : Reading). returned q.number q.place) reading-is ∙ sym (returned-reading x)

    told : (after : List ℕ) → after ≡ frame_answer_after r answer → Told after
    told after f = (comes_back, f ∙ rw e)

-- before the frame is asked for: the start, and room for the answer
module _ (file : List ℕ) (start : ℕ) (answer : List ℕ) where
  abbrev pub judged : ℕ
  judged = first_number (call_tests (in_buffer start (length file) (length file)) 22 (length answer))

  roomy : judged ≡ 0 → leb 22 (length answer) ≡ true
  roomy e = le-leb 22 (length answer) (call-room (length file) start (length file) 22 (length answer) e)

  -- where the answer has no room, there is none for all that a call lends
  module _ (room : Bool) (none : leb 22 (length answer) ≡ false → room ≡ false) (n : ℕ) (k : n ≡ 0 → ⊥) where
    refused-by : (a b : Bool) → leb start (length file) ≡ a → leb 22 (length answer) ≡ b → n ≡ first_number ((a && true) or 1 ∷ b or 2 ∷ [])
        → header_at file start room ≡ refused n 0
    unfolding header_at
    refused-by true true p q e = absurd (k e)
    refused-by true false p q e = rw (p, none q, e)
    refused-by false b p q e = rw (p, e)

    header_refused : n ≡ judged → header_at file start room ≡ refused n 0
    header_refused e =
        let all : leb (length file) (length file) ≡ true = le-leb (length file) (length file) (omega arith) in
        refused-by (leb start (length file)) (leb 22 (length answer)) refl refl (rw all at e)

-- the reader
module _ (c : reading.Call) where
  abbrev before : ℕ
  before = judged c.file c.start c.answer

  pub read-refused : (n : ℕ) → n ≡ before → (n ≡ 0 → ⊥) → reading.ReadFramePromise c n c.outputs c.answer
  read-refused n e k =
      let room = leb 22 (length c.answer) && have_room c.outputs in
      let no = header_refused c.file c.start c.answer room (λ q. rw q) n k e in
      rw no (omega arith, (refl, rw (ne_eqb n 0 k)))

  module _ (r : Framed) (o : Outputs) (p : Read (record { file = c.file; start = c.start; outputs = c.outputs }) r o) where
    abbrev header : Answer Header
    header = header_at c.file c.start (have_room c.outputs)

    abbrev stream : Answer Stream
    stream = stream_at c.file c.start header

    pub read_short : r.reading.place < 16777216
    read_short = short header stream r p.0 (frame-placed c.file c.start (have_room c.outputs))

    module _ (e : before ≡ 0) (n : ℕ) (en : n ≡ returned r.reading.number r.reading.place) where
      pub read_told : (after : List ℕ) → after ≡ frame_answer_after r c.answer → reading.ReadFramePromise c n o after
      read_told after g =
          let t = told header stream r p.0 c.answer n en after g in
          rw (roomy c.file c.start c.answer e) (t.0, (p.1, t.1))

-- the unwrapping
module _ (c : unwrapping.Call) where
  abbrev pub asked : ℕ
  asked = judged c.file c.start c.answer

  pub unwrap-refused : (n : ℕ) → n ≡ asked → (n ≡ 0 → ⊥) → unwrapping.UnwrapFramePromise c n c.out c.answer
  unwrap-refused n e k =
      let no = header_refused c.file c.start c.answer (leb 22 (length c.answer)) (λ q. q) n k e in
      rw no (omega arith, (refl, rw (ne_eqb n 0 k)))

  module _ (r : Framed) (o : List ℕ) (p : Unwrap c.file c.start c.out r o) where
    abbrev whole : Answer Header
    whole = header_at c.file c.start true

    abbrev cut : Answer Stream
    cut = fitted bytes_for (length c.out) (stream_at c.file c.start whole)

    pub unwrap-short : r.reading.place < 16777216
    unwrap-short =
        short whole cut r p.0
        (fitted-placed bytes_for (length c.out) 65528 (stream_at c.file c.start whole) (frame-placed c.file c.start true))

    module _ (e : asked ≡ 0) (n : ℕ) (en : n ≡ returned r.reading.number r.reading.place) where
      pub unwrap-told : (after : List ℕ) → after ≡ frame_answer_after r c.answer → unwrapping.UnwrapFramePromise c n o after
      unwrap-told after g =
          let t = told whole cut r p.0 c.answer n en after g in
          rw (roomy c.file c.start c.answer e) (t.0, (p.1, t.1))
