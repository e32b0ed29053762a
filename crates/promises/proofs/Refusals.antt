-- Every number that comes back is 0 or a refusal of the table. A call's number is picked by tests, so that each choice is looked at.
-- Assumes nothing.
use Prim.Native.Nat.{ℕ, ◌+◌, ◌*◌, ◌<◌}
use mathlib.Core.Path.{◌≡◌, refl, subst}
use mathlib.Core.List.{List, [], ◌∷◌}
use mathlib.Core.Bool.{Bool, true, false, ◌||◌}
use lib.Dec.{eqb, leb, ltb}
use lib.ListN.{length}
use Rattle.bits.specs.Reader.{Answer, got, refused, pick}
use Rattle.bits.specs.Bits.{bits_from}
use Rattle.bits.specs.Field.{field}
use Rattle.bit_reader.specs.Took.{last_place, took_of, took_at}
use Rattle.bits.specs.Payload.{Range, is_there, bytes_in, whole}
use Rattle.bits.specs.Lists.{one_of}
use Rattle.bits.specs.Sampling.{known_index}
use Rattle.bits.specs.Calls.{◌or◌, first_refusal}
use Rattle.bits.proofs.Numbered.{Pass, one-of}
use borrow.Author.Tests.{ltb-true}
use Rattle.channel.specs.Stream.{Stream, stream}
use Rattle.channel.specs.Promise.{have_room, channel, reading_of}
use Rattle.stereo.specs.State.{sound}
use Rattle.stereo.specs.Restart.{restart}
use Rattle.stereo.specs.Payload.{payload}
use Rattle.stereo.specs.declared.State.{State}
use Rattle.stereo.specs.declared.Contents.{Contents}
use Rattle.stereo_reader.specs.Reading.{from, taken, read_bytes, read_from, missing}
use Rattle.stereo_reader.specs.Reading as reading
use Rattle.stereo_reader.specs.declared.Reading.{Reading}
use Rattle.stereo_reader.specs.declared.Report.{Report}
use Rattle.stereo_writer.specs.Writing.{can_write, writing}
use Rattle.stereo_writer.specs.declared.Written.{Written}
use Rattle.stereo_writer.specs.Spelling.{spelling}
use Rattle.bits.specs.Pieces.{total}
use Rattle.bits.specs.Packed.{bytes_for}
use Rattle.stereo_laws.proofs.PayloadNumbers.{payload_refusals, whole-own}
use Rattle.image.specs.declared.Header.{Header}
use Rattle.image.specs.declared.Part.{Part}
use Rattle.image.specs.Image.{count_of, index_of, sound_image, header_of, header_for, part_of}
use Rattle.image_outline.specs.Outline.{outline_of}
use Rattle.c_layout.specs.StateBytes.{state_at, sound_bytes}
use Rattle.c_layout.specs.ContentsBytes.{contents_at}
use Rattle.c_channel.specs.ReadChannel as channel_c
use Rattle.c_stereo.specs.StateCalls.{fresh_number, missing_number}
use Rattle.c_writer.specs.WriteStereo as write_c
use Rattle.c_image.specs.ImageCalls.{image_number, part_number, parts_number}
use Rattle.promises.specs.Refusals.{stream_refusals, refusals, is_refusal, is_answered}
use Rattle.promises.proofs.ChannelNumbers.{stream-numbers}

-- a stream's own numbers are of the table
pub stream-told : (n : ℕ) → one_of stream_refusals n ≡ true → is_refusal n ≡ true
stream-told =
    one-of is_refusal stream_refusals
    (refl, (refl, (refl, (refl, (refl, (refl, (refl, (refl, (refl, (refl, tt))))))))))

-- no refusal has the number of a success
pub never_0 : is_refusal 0 ≡ false
never_0 = refl

-- demand 1, of a channel stream: a refusal is a number of the table, and so it is not 0
pub channel-refusals : (q : Range) (index : ℕ) (room : Bool) (n p : ℕ) → channel q index room ≡ refused n p → is_refusal n ≡ true
unfolding channel
channel-refusals q index room n p = by_tests (is_there q) room (known_index index)
  where
    first : (m : ℕ) → is_refusal m ≡ true → ◌≡◌ {A = Answer Stream} (refused m 0) (refused n p) → is_refusal n ≡ true
    first m o e = let z : m ≡ n = cc in subst (λ (k : ℕ). is_refusal k ≡ true) z o

    by_tests : (a b c : Bool)
        → first_refusal (a or 1 ∷ b or 2 ∷ c or 3 ∷ []) (λ m. refused m 0) (whole (stream index) (bytes_in q)) ≡ refused n p
        → is_refusal n ≡ true
    by_tests true true true e = stream-told n (stream-numbers index (bytes_in q) n p e)
    by_tests true true false e = first 3 refl e
    by_tests true false c e = first 2 refl e
    by_tests false b c e = first 1 refl e

-- a number that tests pick is answered where each of those that it is picked of is
picked : {A : Type 0} (number : A → ℕ) (b : Bool) (x y : A) → is_answered (number x) ≡ true → is_answered (number y) ≡ true
    → is_answered (number (pick b x y)) ≡ true
picked number true x y p q = p
picked number false x y p q = q

abbrev self : ℕ → ℕ
self n = n

pub refused-answered : (n : ℕ) → is_refusal n ≡ true → is_answered n ≡ true
refused-answered n e = by_zero (eqb n 0)
  where
    by_zero : (b : Bool) → (b || is_refusal n) ≡ true
    by_zero true = refl
    by_zero false = e

-- a number that comes back is below 256
pub answered-small : (n : ℕ) → is_answered n ≡ true → n < 256
answered-small n e = ltb-true n 256 (one-of (λ m. ltb m 256) (0 ∷ refusals) passes n e)
  where
    passes : Pass (λ m. ltb m 256) (0 ∷ refusals)
    passes = (
      refl,
      (
        refl,
        (
          refl,
          (
            refl,
            (
              refl,
              (
                refl,
                (
                  refl,
                  (
                    refl,
                    (
                      refl,
                      (
                        refl,
                        (
                          refl,
                          (
                            refl,
                            (
                              refl,
                              (
                                refl,
                                (
                                  refl,
                                  (
                                    refl,
                                    (
                                      refl,
                                      (
                                        refl,
                                        (
                                          refl,
                                          (
                                            refl,
                                            (refl, (refl, (refl, (refl, (refl, (refl, (refl, tt))))))),
                                          ),
                                        ),
                                      ),
                                    ),
                                  ),
                                ),
                              ),
                            ),
                          ),
                        ),
                      ),
                    ),
                  ),
                ),
              ),
            ),
          ),
        ),
      ),
    )

-- a stereo payload's own numbers are of the table
payload-told : (n : ℕ) → one_of payload_refusals n ≡ true → is_refusal n ≡ true
payload-told = one-of is_refusal payload_refusals (refl, (refl, (refl, (refl, (refl, (refl, (refl, tt)))))))

-- of a stereo payload
module _ (st : State) where
  pub bytes-answered : (s : List ℕ) → is_answered (read_bytes st s).number ≡ true
  unfolding read_bytes taken
  bytes-answered s = by_answer (whole (payload (from st)) s) refl
    where
      by_answer : (x : Answer Contents) → whole (payload (from st)) s ≡ x → is_answered (reading.reading_of st x).number ≡ true
      by_answer (got c bits) e = picked (λ (r : Reading). r.number) (st.instep || restart c) _ _ refl refl
      by_answer (refused n p) e = refused-answered n (payload-told n (whole-own (from st) s n p e))

  pub stereo-answered : (p : Range) → is_answered (read_from st p).number ≡ true
  unfolding read_from
  stereo-answered p =
      picked (λ (r : Reading). r.number) (is_there p) _ _
      (picked (λ (r : Reading). r.number) (sound st) _ _ (bytes-answered (bytes_in p)) refl) refl

  pub report-answered : is_answered (missing st).number ≡ true
  unfolding missing
  report-answered = picked (λ (r : Report). r.number) (sound st) _ _ refl refl

  pub writing-answered : (c : Contents) (room : ℕ) → is_answered (writing st c room).number ≡ true
  unfolding writing
  writing-answered c room =
      picked (λ (w : Written). w.number) (sound st) _ _
      (picked (λ (w : Written). w.number) (can_write (from st) c) _ _
      (picked (λ (w : Written). w.number) (st.instep || restart c) _ _
      (picked (λ (w : Written). w.number) (leb (bytes_for (total (spelling (from st) c))) room) _ _ refl refl) refl) refl)
      refl

-- of the bit reader
pub take-answered : (s : List ℕ) (at n : ℕ) → is_answered (took_at s at n).number ≡ true
unfolding took_at field
take-answered s at n = by_tests (leb n 32) (leb (at + n) (last_place s))
  where
    by_tests : (a b : Bool)
        → is_answered (took_of (pick a (pick b (got (bits_from s at n) (at + n)) (refused 10 at)) (refused 10 at)) at).number ≡ true
    by_tests true true = refl
    by_tests true false = refl
    by_tests false b = refl

-- of an image
pub header-answered : (s : List ℕ) → is_answered (header_of s).number ≡ true
unfolding header_of
header-answered s =
    picked (λ (h : Header). h.number) (sound_image s) _ _ (picked (λ (h : Header). h.number) (known_index (index_of s)) _ _ refl refl)
    refl

pub part-answered : (s : List ℕ) (k : ℕ) → is_answered (part_of s k).number ≡ true
unfolding part_of
part-answered s k =
    picked (λ (p : Part). p.number) (eqb (header_of s).number 0) _ _
    (picked (λ (p : Part). p.number) (ltb k (header_of s).count) _ _ refl refl) (header-answered s)

-- and for a lent output: of an outline, and of all parts for C
pub header_for-answered : (each : ℕ) (s : List ℕ) (room : ℕ) → is_answered (header_for each s room).number ≡ true
unfolding header_for
header_for-answered each s room =
    picked (λ (h : Header). h.number) (sound_image s) _ _
    (picked (λ (h : Header). h.number) (leb (each * count_of s) room) _ _ (header-answered s) refl) refl

pub outline_answered : (s : List ℕ) (room : ℕ) → is_answered (outline_of s room).number ≡ true
outline_answered = header_for-answered 5

-- of the functions for C: what comes back has a number of the table, and its place
answer-number : (x : Answer Stream) → ((n p : ℕ) → x ≡ refused n p → is_refusal n ≡ true) → is_answered (reading_of x).number ≡ true
answer-number (got x bits) f = refl
answer-number (refused n p) f = refused-answered n (f n p refl)

pub channel-answered : (c : channel_c.Call) → is_answered (reading_of (channel_c.channel_call c)).number ≡ true
unfolding channel_c.channel_call
channel-answered c =
    picked (λ (x : Answer Stream). (reading_of x).number) (is_there c.payload) _ _
    (picked (λ (x : Answer Stream). (reading_of x).number) (leb 17 (length c.answer)) _ _
    (answer-number (channel c.payload c.index (have_room c.outputs))
    (channel-refusals c.payload c.index (have_room c.outputs)))
    refl)
    refl

pub fresh-answered : (s : List ℕ) → is_answered (fresh_number s) ≡ true
fresh-answered s = picked self (leb 146 (length s)) _ _ refl refl

pub missing-answered : (s : List ℕ) → is_answered (missing_number s) ≡ true
missing-answered s = picked self (sound_bytes s) _ _ refl refl

pub write-answered : (c : write_c.Call) → is_answered (write_c.write_number c) ≡ true
unfolding write_c.write_number
write-answered c =
    picked self (leb 4 (length c.answer)) _ _
    (picked self (sound_bytes c.state) _ _
    (picked self (leb 582 (length c.contents)) _ _
    (writing-answered (state_at c.state) (contents_at c.contents) (length c.out)) refl)
    refl)
    refl

pub image_answered : (image : List ℕ) (room : ℕ) → is_answered (image_number image room) ≡ true
unfolding image_number
image_answered image room = picked self (leb 8 room) _ _ (header-answered image) refl

pub find_answered : (image : List ℕ) (k room : ℕ) → is_answered (part_number image k room) ≡ true
unfolding part_number
find_answered image k room = picked self (leb 8 room) _ _ (part-answered image k) refl

pub find_all-answered : (image : List ℕ) (room : ℕ) → is_answered (parts_number image room) ≡ true
find_all-answered = header_for-answered 8
