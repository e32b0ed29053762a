-- A refusal changes no lent buffer, and in the stereo state at most the mark: 1, 2 and 4 leave it and have no place, 10 to 35 set it out of
-- step.
-- Assumes nothing.
use Prim.Native.Nat.{ℕ, ◌+◌, ◌<◌}
use mathlib.Core.Path.{◌≡◌, refl}
use mathlib.Core.Logic.{◌≢◌}
use mathlib.Core.List.{List, [], ◌∷◌}
use mathlib.Core.Bool.{Bool, true, false, ◌||◌}
use lib.Dec.{eqb, leb}
use lib.ListN.{length}
use native.Mathlib.Omega.{arith}
use borrow.Author.Tests.{ne_eqb}
use Rattle.bits.specs.Reader.{Answer, got, refused, pick}
use Rattle.bits.specs.Calls.{◌or◌, first_refusal, returned, number_in, answered}
use Rattle.bits.specs.Bits.{bits_from}
use Rattle.bits.specs.Field.{field}
use Rattle.bit_reader.specs.Took.{last_place, took_of, took_at}
use Rattle.bit_reader.specs.declared.Took.{Took}
use Rattle.bits.specs.Payload.{Range, is_there, bytes_in, whole}
use Rattle.bits.proofs.CallLaws.{number-kept}
use Rattle.channel.specs.Stream.{Stream}
use Rattle.channel.specs.Promise.{Outputs, reading_of, outputs_after}
use Rattle.stereo.specs.State.{sound, lost}
use Rattle.stereo.specs.Restart.{restart}
use Rattle.stereo.specs.Payload.{payload}
use Rattle.stereo.specs.declared.State.{State}
use Rattle.stereo.specs.declared.Contents.{Contents}
use Rattle.stereo_reader.specs.declared.Reading.{Reading}
use Rattle.stereo_reader.specs.declared.Report.{Report}
use Rattle.stereo_reader.specs.Reading.{from, refusal, acceptance, taken, read_bytes, read_from, missing}
use Rattle.stereo_reader.specs.Reading as reading
use Rattle.stereo.specs.Carried.{carried}
use Rattle.bits.proofs.Numbered.{one-of}
use Rattle.stereo_laws.proofs.PayloadNumbers.{payload_refusals, whole-own}
use Rattle.c_stereo.specs.StateCalls.{fresh_number, fresh_after, missing_number, missing_after, lost_bytes}
use Rattle.c_stereo.specs.ReadStereo as stereo_c
use Rattle.stereo_writer.specs.declared.Written.{Written}
use Rattle.stereo_writer.specs.Spelling.{spelling}
use Rattle.stereo_writer.specs.Writing.{can_write, unwritten, writing, written_over}
use Rattle.bits.specs.Pieces.{total}
use Rattle.bits.specs.Packed.{bytes_for}
use Rattle.bits.specs.Lists.{one_of}
use Rattle.c_layout.specs.StateBytes.{state_at, sound_bytes}
use Rattle.c_layout.specs.ContentsBytes.{contents_at}
use Rattle.c_writer.specs.WriteStereo as write_c
use Rattle.c_image.specs.ImageCalls.{image_number, image_answer_after, part_number, part_answer_after, parts_number, parts_answer_after}
use Rattle.image_outline.specs.Outline.{outline_of, rows_after}
use Rattle.c_channel.specs.ReadChannel.{channel_answer_after}
use Rattle.promises.proofs.Refusals.{bytes-answered, answered-small}
use Rattle.promises.proofs.Places.{accepted-placed}

-- a lent answer after a number that is not 0
unanswered : (n : ℕ) → n ≢ 0 → (bytes old : List ℕ) → answered n bytes old ≡ old
unanswered n h bytes old = rw (ne_eqb n 0 h)

-- a channel stream, of the library or for C: an answer that is refused leaves every output
pub channel_untouched : (x : Answer Stream) → (reading_of x).number ≢ 0 → (o : Outputs) (answer : List ℕ)
    → (outputs_after x o ≡ o) × (channel_answer_after x answer ≡ answer)
channel_untouched (got x bits) h o answer = absurd (h refl)
channel_untouched (refused n p) h o answer = (refl, unanswered n h _ answer)

-- of the bit reader: a refusal takes nothing, and the place stays
module _ (s : List ℕ) (at n : ℕ) where
  abbrev took : Bool → Bool → Took
  took a b = took_of (pick a (pick b (got (bits_from s at n) (at + n)) (refused 10 at)) (refused 10 at)) at

  took-refused : (a b : Bool) → (took a b).number ≢ 0 → took a b ≡ record { number = 10; value = 0; next = at }
  took-refused true true h = absurd (h refl)
  took-refused true false h = refl
  took-refused false b h = refl

  pub take-untouched : (took_at s at n).number ≢ 0 → took_at s at n ≡ record { number = 10; value = 0; next = at }
  unfolding took_at field
  take-untouched = took-refused (leb n 32) (leb (at + n) (last_place s))

-- a payload's own numbers are 10 and above
late : (n : ℕ) → one_of payload_refusals n ≡ true → leb 10 n ≡ true
late = one-of (leb 10) payload_refusals (refl, (refl, (refl, (refl, (refl, (refl, (refl, tt)))))))

-- a stereo reading is accepted, or a refusal whose other numbers are 0: 10 and above have a place and touch the mark, the others have the
-- place 0 and leave the state
abbrev pub settled_to : State → Reading → Reading
settled_to st r = pick (leb 10 r.number) (refusal r.number r.place (lost st)) (refusal r.number 0 st)

abbrev pub Settled : State → Reading → Type 0
Settled st r = r.number ≢ 0 → r ≡ settled_to st r

settled-pick : (st : State) (b : Bool) {x y : Reading} → Settled st x → Settled st y → Settled st (pick b x y)
settled-pick st true p q = p
settled-pick st false p q = q

module _ (st : State) where
  -- a payload's own refusal touches the mark
  abbrev Touching : Reading → Type 0
  Touching r = r.number ≢ 0 → (r ≡ refusal r.number r.place (lost st)) × (leb 10 r.number ≡ true)

  touching-pick : (b : Bool) (bits : ℕ) (r : Reading) → r.number ≡ 0 → Touching (pick b r (refusal 35 bits (lost st)))
  touching-pick true bits r e h = absurd (h e)
  touching-pick false bits r e h = (refl, refl)

  pub bytes-touching : (s : List ℕ) → Touching (read_bytes st s)
  unfolding read_bytes taken
  bytes-touching s = by_answer (whole (payload (from st)) s) refl
    where
      by_answer : (x : Answer Contents) → whole (payload (from st)) s ≡ x → Touching (reading.reading_of st x)
      by_answer (got c bits) e =
          touching-pick (st.instep || restart c) bits (acceptance st c bits) refl
      by_answer (refused n p) e = λ h. (refl, late n (whole-own (from st) s n p e))

  bytes-settled : (s : List ℕ) → Settled st (read_bytes st s)
  bytes-settled s h = let o = bytes-touching s h in rw o.1 o.0

  -- of the reader, by value or over a lent state
  pub stereo-settled : (p : Range) → Settled st (read_from st p)
  unfolding read_from
  stereo-settled p =
      settled-pick st (is_there p) (settled-pick st (sound st) (bytes-settled (bytes_in p)) (λ h. refl)) (λ h. refl)

  -- of a report
  abbrev report : Bool → Report
  report b = pick b (record { number = 0; state = lost st }) (record { number = 4; state = st })

  report-by : (b : Bool) → (report b).number ≢ 0 → report b ≡ record { number = 4; state = st }
  report-by true h = absurd (h refl)
  report-by false h = refl

  pub report-settled : (missing st).number ≢ 0 → missing st ≡ record { number = 4; state = st }
  unfolding missing
  report-settled = report-by (sound st)

-- of the writer: a refusal leaves the state and the buffer
abbrev tested : State → Bool → Bool → Bool → Bool → Written → Written
tested st a b c d w = pick a (pick b (pick c (pick d w (unwritten 2 st)) (unwritten 35 st)) (unwritten 40 st)) (unwritten 4 st)

tested-unwritten : (st : State) (a b c d : Bool) (w : Written) → w.number ≡ 0 → (tested st a b c d w).number ≢ 0
    → tested st a b c d w ≡ unwritten (tested st a b c d w).number st
tested-unwritten st true true true true w e h = absurd (h e)
tested-unwritten st true true true false w e h = refl
tested-unwritten st true true false d w e h = refl
tested-unwritten st true false c d w e h = refl
tested-unwritten st false b c d w e h = refl

module _ (st : State) (c : Contents) (out : List ℕ) (h : (writing st c (length out)).number ≢ 0) where
  pub state-unwritten : writing st c (length out) ≡ unwritten (writing st c (length out)).number st
  unfolding writing
  state-unwritten =
      let bits = total (spelling (from st) c) in
      tested-unwritten st (sound st) (can_write (from st) c) (st.instep || restart c) (leb (bytes_for bits) (length out))
      (record { number = 0; bits = bits; state = carried (from st) c }) refl h

  pub buffer-unwritten : written_over (writing st c (length out)) st c out ≡ out
  unfolding written_over
  buffer-unwritten = rw (ne_eqb _ 0 h)

-- of an image: a refused outline leaves the rows
pub rows_untouched : (s rows : List ℕ) → (outline_of s (length rows)).number ≢ 0 → rows_after s rows ≡ rows
unfolding rows_after
rows_untouched s rows h = rw (ne_eqb _ 0 h)

-- of the functions for C: what comes back is 0, or a refusal before any bit, below 10, or one of the payload, from 10 on
module _ (c : stereo_c.Call) (h : stereo_c.stereo_returned c ≢ 0) where
  -- by the three tests, and by the number and the place of the reading
  abbrev told : Bool → Bool → Bool → ℕ → ℕ → ℕ
  told a b d n place = first_refusal (a or 1 ∷ b or 2 ∷ d or 4 ∷ []) (λ m. m) (returned n place)

  by_tests : (a b d : Bool) (n place : ℕ) → (n ≡ 0 → place ≡ 0) → (n ≢ 0 → leb 10 n ≡ true) → n < 256 → (next news : List ℕ)
      → told a b d n place ≢ 0
      → (first_refusal (a or 1 ∷ b or 2 ∷ d or 4 ∷ []) (λ m. c.state) (pick (eqb n 0) next (lost_bytes c.state))
      ≡ pick (leb 10 (number_in (told a b d n place))) (lost_bytes c.state) c.state)
      × (first_refusal (a or 1 ∷ b or 2 ∷ d or 4 ∷ []) (λ m. c.answer) (answered n news c.answer) ≡ c.answer)
  by_tests true true true n place none late small next news h =
      let not-0 : n ≢ 0 = λ e. h (omega (arith, e, none e)) in
      rw (ne_eqb n 0 not-0, number-kept n place small, late not-0) (refl, refl)
  by_tests true true false n place none late small next news h = (refl, refl)
  by_tests true false d n place none late small next news h = (refl, refl)
  by_tests false b d n place none late small next news h = (refl, refl)

  left : (stereo_c.stereo_state_after c ≡ pick (leb 10 (number_in (stereo_c.stereo_returned c))) (lost_bytes c.state) c.state)
      × (stereo_c.stereo_answer_after c ≡ c.answer)
  unfolding stereo_c.stereo_returned stereo_c.stereo_state_after stereo_c.stereo_answer_after
  left =
      let st = state_at c.state in
      let s = bytes_in c.payload in
      let r = read_bytes st s in
      by_tests (is_there c.payload) (leb 582 (length c.answer)) (sound_bytes c.state) r.number r.place (accepted-placed st s)
      (λ g. (bytes-touching st s g).1) (answered-small _ (bytes-answered st s)) _ _ h

  pub stereo-answer-untouched : stereo_c.stereo_answer_after c ≡ c.answer
  stereo-answer-untouched = left.1

  pub stereo-state-marked : stereo_c.stereo_state_after c
      ≡ pick (leb 10 (number_in (stereo_c.stereo_returned c))) (lost_bytes c.state) c.state
  stereo-state-marked = left.0

module _ (s : List ℕ) where
  pub fresh-untouched : fresh_number s ≢ 0 → fresh_after s ≡ s
  fresh-untouched h = unanswered _ h _ s

  by-sound : (b : Bool) → ◌≢◌ {A = ℕ} (pick b 0 4) 0 → pick b (lost_bytes s) s ≡ s
  by-sound true h = absurd (h refl)
  by-sound false h = refl

  pub missing-untouched : missing_number s ≢ 0 → missing_after s ≡ s
  missing-untouched = by-sound (sound_bytes s)

module _ (c : write_c.Call) (h : write_c.write_number c ≢ 0) where
  pub write-untouched : (write_c.write_state_after c ≡ c.state) × (write_c.write_answer_after c ≡ c.answer)
  unfolding write_c.write_state_after write_c.write_answer_after
  write-untouched = (unanswered _ h _ c.state, unanswered _ h _ c.answer)

  by_call : (a b d : Bool) (w : Written) → first_refusal (a or 2 ∷ b or 4 ∷ d or 40 ∷ []) (λ n. n) w.number ≢ 0
      → first_refusal (a or 2 ∷ b or 4 ∷ d or 40 ∷ []) (λ n. c.out)
      (written_over w (state_at c.state) (contents_at c.contents) c.out) ≡ c.out
  unfolding written_over
  by_call true true true w h = rw (ne_eqb _ 0 h)
  by_call true true false w h = refl
  by_call true false d w h = refl
  by_call false b d w h = refl

  pub output-untouched : write_c.write_output_after c ≡ c.out
  unfolding write_c.write_output_after write_c.write_number
  output-untouched =
      by_call (leb 4 (length c.answer)) (sound_bytes c.state) (leb 582 (length c.contents)) (write_c.stereo_writing c) h

module _ (image answer : List ℕ) where
  pub header-untouched : image_number image (length answer) ≢ 0 → image_answer_after image answer ≡ answer
  unfolding image_answer_after
  header-untouched h = unanswered _ h _ answer

  pub part-untouched : (k : ℕ) → part_number image k (length answer) ≢ 0 → part_answer_after image k answer ≡ answer
  unfolding part_answer_after
  part-untouched k h = unanswered _ h _ answer

  pub parts-untouched : parts_number image (length answer) ≢ 0 → parts_answer_after image answer ≡ answer
  unfolding parts_answer_after
  parts-untouched h = unanswered _ h _ answer
