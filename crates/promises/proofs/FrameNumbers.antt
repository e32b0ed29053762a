-- Every number that reading, unwrapping or wrapping a frame gives is 0 or a refusal of the table: where it is 0 there is a stream, else
-- what was lent is as it was.
-- Assumes nothing.
use Prim.Native.Nat.{ℕ, ◌*◌, ◌-◌}
use mathlib.Core.Path.{◌≡◌, refl, sym, subst}
use mathlib.Core.List.{List, [], ◌∷◌}
use mathlib.Core.Logic.{◌≢◌}
use mathlib.Core.Bool.{Bool, true, false, ◌&&◌}
use lib.Dec.{leb}
use lib.ListN.{length, drop}
use borrow.Author.Tests.{ne_eqb}
use Rattle.bits.specs.Reader.{Answer, got, refused, Reader, give, pick, ◌>>=◌}
use Rattle.bits.specs.Field.{field}
use Rattle.bits.specs.Payload.{Range, is_there, ended}
use Rattle.bits.specs.Calls.{◌or◌, first_refusal}
use Rattle.bits.specs.Places.{here}
use Rattle.bits.proofs.Bools.{true-false}
use Rattle.bits.proofs.Lawful.{not-refused}
use Rattle.bits.proofs.Numbered.{Numbered, give-numbered, here-numbered, field-numbered, bind-numbered}
use Rattle.bits.proofs.Numbered.{expecting-numbered, one_field-numbered, inside-numbered}
use Rattle.channel.specs.Stream.{Stream, stream}
use Rattle.channel.specs.Promise.{reading_of}
use Rattle.adts.specs.Header.{Header, syncword, only, sampling_index, fixed_half, variable_half, header}
use Rattle.adts.specs.Block.{Block, element, single_channel, raw_block}
use Rattle.adts.specs.Frame.{whole_header, fitting, length_judged, frame_header, stream_in}
use Rattle.adts.specs.Wrapping.{frame_length}
use Rattle.adts.specs.Promise.{header_at, stream_at, framed, fitted, unwrapped, wrappable, wrapped_of, wrapped_bytes}
use Rattle.bits.specs.Packed.{bytes_for}
use Rattle.c_adts.specs.FrameBytes.{frame_answer_after}
use Rattle.c_adts.specs.WrapStream.{Call, wrap_call, wrap_answer_after}
use Rattle.promises.specs.Refusals.{is_refusal, is_answered}
use Rattle.promises.proofs.ChannelNumbers.{stream-own}
use Rattle.promises.proofs.Refusals.{stream-told, refused-answered, channel-refusals}

-- the same refusal has the same number
is-told : {A : Type 0} {m n p q : ℕ} → is_refusal m ≡ true → ◌≡◌ {A = Answer A} (refused m p) (refused n q) → is_refusal n ≡ true
is-told {m = m} {n = n} o e = let z : m ≡ n = cc in subst (λ (k : ℕ). is_refusal k ≡ true) z o

-- the laws of Numbered, at the table
abbrev Told : {A : Type 0} → Reader A → Type 0
Told r = Numbered is_refusal r

field_told : (k : ℕ) → Told (field k)
field_told k = field-numbered is_refusal refl k

bind_told : {A B : Type 0} (r : Reader A) (k : A → Reader B) → Told r → ((a : A) → Told (k a)) → Told (r >>= k)
bind_told r k g h = bind-numbered is_refusal r k g h

give-told : {A : Type 0} (a : A) → Told (give a)
give-told a = give-numbered is_refusal a

here-told : Told here
here-told = here-numbered is_refusal

only-told : (v n : ℕ) → Told (only v n)
unfolding only
only-told v n = expecting-numbered is_refusal 51 _ (field n) refl (field_told n)

sync_told : Told syncword
unfolding syncword
sync_told = expecting-numbered is_refusal 50 _ (field 12) refl (field_told 12)

index-told : Told sampling_index
unfolding sampling_index
index-told = expecting-numbered is_refusal 51 _ (field 4) refl (field_told 4)

element-told : (id : ℕ) → Told (element id)
unfolding element
element-told id = expecting-numbered is_refusal 53 _ (field 3) refl (field_told 3)

ruleset tolds = (bind_told, give-told, field_told, here-told, only-told, sync_told, index-told, element-told)

header-told : Told header
unfolding header fixed_half variable_half
header-told = search tolds depth 24

stream-is-told : (index : ℕ) → Told (stream index)
stream-is-told index = record { law = λ s at end n p e. stream-told n ((stream-own index).law s at end n p e) }

channel-told : (index : ℕ) → Told (single_channel index)
unfolding single_channel
channel-told index = search (tolds, stream-is-told) depth 16

ended-told : {A : Type 0} (a : A) → Told (ended a)
unfolding ended
ended-told {A} a = record { law = λ s at end n p e. go at end n p (leb (end - at) 7) e }
  where
    go : (at end n p : ℕ) (b : Bool) → pick b (got a at) (refused 12 at) ≡ refused n p → is_refusal n ≡ true
    go at end n p true e = not-refused e
    go at end n p false e = is-told refl e

block-told : (index : ℕ) → Told (raw_block index)
unfolding raw_block
block-told index = search (tolds, channel-told, ended-told) depth 12

-- a length is judged with 52
judged-told : (there : ℕ) (x : Answer Header) → ((n p : ℕ) → x ≡ refused n p → is_refusal n ≡ true) → (n p : ℕ)
    → length_judged there x ≡ refused n p → is_refusal n ≡ true
unfolding fitting
judged-told there (refused m q) f n p e = f n p e
judged-told there (got h next) f n p e = go (leb 7 h.length && leb h.length there) e
  where
    go : (a : Bool) → pick a (got h 56) (refused 52 0) ≡ refused n p → is_refusal n ≡ true
    go true e = not-refused e
    go false e = is-told refl e

frame-header-told : (bytes : List ℕ) (n p : ℕ) → frame_header bytes ≡ refused n p → is_refusal n ≡ true
unfolding frame_header whole_header
frame-header-told bytes =
    judged-told (length bytes) _
    ((one_field-numbered is_refusal _ (inside-numbered is_refusal 56 10 header refl refl header-told)).law bytes 0 (8 * length bytes))

-- a refusal of a frame, at a byte of a file
pub header-refusals : (file : List ℕ) (start : ℕ) (room : Bool) (n p : ℕ) → header_at file start room ≡ refused n p → is_refusal n ≡ true
unfolding header_at
header-refusals file start room n p e = go (leb start (length file)) room e
  where
    go : (a b : Bool) → pick a (pick b (frame_header (drop start file)) (refused 2 0)) (refused 1 0) ≡ refused n p → is_refusal n ≡ true
    go true true e = frame-header-told (drop start file) n p e
    go true false e = is-told refl e
    go false b e = is-told refl e

stream-refusals : (file : List ℕ) (start : ℕ) (h : Answer Header) → ((n p : ℕ) → h ≡ refused n p → is_refusal n ≡ true) → (n p : ℕ)
    → stream_at file start h ≡ refused n p → is_refusal n ≡ true
stream-refusals file start (refused m q) f n p e = is-told (f m q refl) e
stream-refusals file start (got h next) f n p e = go (raw_block h.index (drop start file) 56 (8 * h.length)) refl e
  where
    go : (x : Answer Block) → raw_block h.index (drop start file) 56 (8 * h.length) ≡ x → stream_in x ≡ refused n p → is_refusal n ≡ true
    go (got b m) q e = not-refused e
    go (refused m k) q e = is-told ((block-told h.index).law (drop start file) 56 (8 * h.length) m k q) e

pub frame-refusals : (file : List ℕ) (start : ℕ) (room : Bool) (n p : ℕ) → stream_at file start (header_at file start room) ≡ refused n p
    → is_refusal n ≡ true
frame-refusals file start room = stream-refusals file start (header_at file start room) (header-refusals file start room)

-- what has to fit is refused with 2
fitted-told : (size : ℕ → ℕ) (room : ℕ) (x : Answer Stream) → ((n p : ℕ) → x ≡ refused n p → is_refusal n ≡ true) → (n p : ℕ)
    → fitted size room x ≡ refused n p → is_refusal n ≡ true
fitted-told size room (refused m q) f n p e = f n p e
fitted-told size room (got x bits) f n p e = go (leb (size bits) room) e
  where
    go : (a : Bool) → pick a (got x bits) (refused 2 0) ≡ refused n p → is_refusal n ≡ true
    go true e = not-refused e
    go false e = is-told refl e

pub unwrap-refusals : (file : List ℕ) (start : ℕ) (fit : Bool) (room n p : ℕ)
    → fitted bytes_for room (stream_at file start (header_at file start fit)) ≡ refused n p → is_refusal n ≡ true
unwrap-refusals file start fit room = fitted-told bytes_for room _ (frame-refusals file start fit)

pub wrap-refusals : (q : Range) (index room n p : ℕ) → wrappable q index room ≡ refused n p → is_refusal n ≡ true
unfolding wrappable
wrap-refusals q index room = fitted-told frame_length room _ (channel-refusals q index true)

-- an answer whose number is 0 has a stream
pub taken : (x : Answer Stream) → ((n p : ℕ) → x ≡ refused n p → is_refusal n ≡ true) → (reading_of x).number ≡ 0
    → (s : Stream) × (bits : ℕ) × (x ≡ got s bits)
taken (got s bits) f e = (s, bits, refl)
taken (refused n p) f e = absurd (true-false (is_refusal n) (f n p refl) (subst (λ (k : ℕ). is_refusal k ≡ false) (sym e) refl))

-- demand 1: the number of a call is 0 or a refusal of the table
pub answered : (x : Answer Stream) → ((n p : ℕ) → x ≡ refused n p → is_refusal n ≡ true) → is_answered (reading_of x).number ≡ true
answered (got s bits) f = refl
answered (refused n p) f = refused-answered n (f n p refl)

pub frame-answered : (file : List ℕ) (start : ℕ) (room : Bool)
    → is_answered (reading_of (stream_at file start (header_at file start room))).number ≡ true
frame-answered file start room = answered (stream_at file start (header_at file start room)) (frame-refusals file start room)

pub unwrap-answered : (file : List ℕ) (start : ℕ) (fit : Bool) (room : ℕ)
    → is_answered (reading_of (fitted bytes_for room (stream_at file start (header_at file start fit)))).number ≡ true
unwrap-answered file start fit room = answered _ (unwrap-refusals file start fit room)

wrapped_answered : (x : Answer Stream) → ((n p : ℕ) → x ≡ refused n p → is_refusal n ≡ true) → is_answered (wrapped_of x).number ≡ true
wrapped_answered (got s bits) f = refl
wrapped_answered (refused n p) f = refused-answered n (f n p refl)

pub wrap-answered : (q : Range) (index room : ℕ) → is_answered (wrapped_of (wrappable q index room)).number ≡ true
wrap-answered q index room = wrapped_answered _ (wrap-refusals q index room)

-- for C the answer's room is judged with the outputs, or after the range
pub wrap-call-refusals : (c : Call) (n p : ℕ) → wrap_call c ≡ refused n p → is_refusal n ≡ true
unfolding wrap_call
wrap-call-refusals c n p = by_tests (is_there c.payload) (leb 4 (length c.answer))
  where
    by_tests : (a b : Bool)
        → first_refusal (a or 1 ∷ b or 2 ∷ []) (λ m. refused m 0) (wrappable c.payload c.index (length c.out)) ≡ refused n p
        → is_refusal n ≡ true
    by_tests true true e = wrap-refusals c.payload c.index (length c.out) n p e
    by_tests true false e = is-told refl e
    by_tests false b e = is-told refl e

pub wrap-call-answered : (c : Call) → is_answered (wrapped_of (wrap_call c)).number ≡ true
wrap-call-answered c = wrapped_answered (wrap_call c) (wrap-call-refusals c)

-- and one that is refused leaves what was lent
pub unwrap_untouched : (bytes : List ℕ) (x : Answer Stream) → (reading_of x).number ≢ 0 → (old : List ℕ) → unwrapped bytes x old ≡ old
unwrap_untouched bytes (got s bits) h old = absurd (h refl)
unwrap_untouched bytes (refused n p) h old = refl

pub wrap_untouched : (index : ℕ) (bytes : List ℕ) (x : Answer Stream) → (wrapped_of x).number ≢ 0 → (old : List ℕ)
    → wrapped_bytes index bytes x old ≡ old
wrap_untouched index bytes (got s bits) h old = absurd (h refl)
wrap_untouched index bytes (refused n p) h old = refl

-- and so it does for C
pub frame-answer_untouched : (h : Answer Header) (x : Answer Stream) → (reading_of x).number ≢ 0 → (old : List ℕ)
    → frame_answer_after (framed h (reading_of x)) old ≡ old
frame-answer_untouched (got h next) x e old = rw (ne_eqb _ 0 e)
frame-answer_untouched (refused n p) x e old = rw (ne_eqb _ 0 e)

pub wrap-answer_untouched : (x : Answer Stream) → (wrapped_of x).number ≢ 0 → (old : List ℕ) → wrap_answer_after x old ≡ old
wrap-answer_untouched x e old = rw (ne_eqb _ 0 e)
