-- The two ways in which a call that wraps a stream ends: it is refused before the stream is asked for, or what comes back and what is lent
-- are those of the wrapping.
-- Assumes nothing.
use Prim.Native.Nat.{ℕ, ◌<◌}
use mathlib.Core.Path.{◌≡◌, refl, sym, ap, ◌∙◌}
use mathlib.Core.List.{List}
use mathlib.Core.Bool.{Bool, true, false}
use native.Mathlib.Omega.{arith}
use borrow.Author.Tests.{ne_eqb}
use lib.Dec.{ltb}
use lib.ListN.{length}
use Rattle.bits.specs.Reader.{Answer, got, refused, pick}
use Rattle.bits.specs.Bytes.{word_of}
use Rattle.bits.specs.Payload.{is_there, bytes_in}
use Rattle.bits.specs.Calls.{first_number, call_tests, returned, returned_of, answered}
use Rattle.bits.proofs.CallLaws.{first-refused, first-passed}
use Rattle.channel.specs.Stream.{Stream}
use Rattle.channel.specs.Promise.{channel, reading_of}
use Rattle.channel.proofs.PromiseLaws.{channel-placed}
use Rattle.adts.specs.Wrapping.{frame_length}
use Rattle.adts.specs.Promise.{fitted, wrappable, wrapped_of, wrapped_bytes, WrapPromise}
use Rattle.adts.specs.declared.Wrapped.{Wrapped}
use Rattle.adts_laws.proofs.FramePlaces.{fitted-placed}
use Rattle.c_channel.proofs.ChannelLaws.{narrowed, large-refused, reading-placed}
use Rattle.c_adts.specs.WrapStream.{Call, wrap_call, WrapStreamPromise}

-- a wrapping's number and place are a reading's, and come back as they do
returned_wrapped : (x : Answer Stream) → returned_of x ≡ returned (wrapped_of x).number (wrapped_of x).place
returned_wrapped (got a bits) = refl
returned_wrapped (refused n place) = refl

same_place : (x : Answer Stream) → (wrapped_of x).place ≡ (reading_of x).place
same_place (got a bits) = refl
same_place (refused n place) = refl

module _ (c : Call) where
  abbrev asked : ℕ → Answer Stream
  asked i = wrappable c.payload i (length c.out)

  -- an index that was narrowed changes nothing: one that is too large is refused in either form
  narrowed-asked : asked (pick (ltb c.index 256) c.index 0) ≡ asked c.index
  unfolding wrappable
  narrowed-asked = ap (fitted frame_length (length c.out)) (narrowed c.payload c.index true)

  bytes-by : (b : Bool) → ltb c.index 256 ≡ b
      → wrapped_bytes (pick b c.index 0) (bytes_in c.payload) (asked c.index) c.out
      ≡ wrapped_bytes c.index (bytes_in c.payload) (asked c.index) c.out
  unfolding wrappable
  bytes-by true e = refl
  bytes-by false e = rw (large-refused c.payload c.index true e) (never (is_there c.payload))
    where
      never : (there : Bool)
          → wrapped_bytes 0 (bytes_in c.payload) (fitted frame_length (length c.out) (pick there (refused 3 0) (refused 1 0))) c.out
          ≡ wrapped_bytes c.index (bytes_in c.payload) (fitted frame_length (length c.out) (pick there (refused 3 0) (refused 1 0)))
          c.out
      never true = refl
      never false = refl

  abbrev pub before : ℕ
  before = first_number (call_tests (is_there c.payload) 4 (length c.answer))

  pub wrap-refused : (n : ℕ) → n ≡ before → (n ≡ 0 → ⊥) → WrapStreamPromise c n c.out c.answer
  unfolding wrap_call
  wrap-refused n e k =
      let tests = call_tests (is_there c.payload) 4 (length c.answer) in
      let r = first-refused tests (λ m. refused m 0) (asked c.index) (rw e at k) in
      rw (r, ← e, ne_eqb n 0 k) (omega arith, (refl, refl))

  -- the stream is asked for with an index that was narrowed
  module _ (i : ℕ) (ei : i ≡ pick (ltb c.index 256) c.index 0) (r : Wrapped) (o : List ℕ)
      (p : WrapPromise (record { payload = c.payload; index = i; out = c.out }) r o) where
    same : asked i ≡ asked c.index
    same = ap asked ei ∙ narrowed-asked

    wrapped : r ≡ wrapped_of (asked c.index)
    wrapped = p.0 ∙ ap wrapped_of same

    framed : o ≡ wrapped_bytes c.index (bytes_in c.payload) (asked c.index) c.out
    framed =
        p.1 ∙ ap (λ (z : Answer Stream). wrapped_bytes i (bytes_in c.payload) z c.out) same
        ∙ ap (λ (z : ℕ). wrapped_bytes z (bytes_in c.payload) (asked c.index) c.out) ei
        ∙ bytes-by (ltb c.index 256) refl

    -- the place of a refusal leaves room for its number
    pub wrap-short : r.place < 16777216
    unfolding wrappable
    wrap-short =
        let is = ap (λ (z : Wrapped). z.place) wrapped ∙ same_place (asked c.index) in
        let near = reading-placed 38008 (asked c.index)
        (fitted-placed frame_length (length c.out) 38008 (channel c.payload c.index true)
        (channel-placed c.payload c.index true)) in
        omega arith

    module _ (e : before ≡ 0) (n : ℕ) (en : n ≡ returned r.number r.place) where
      called : wrap_call c ≡ asked c.index
      unfolding wrap_call
      called = first-passed (call_tests (is_there c.payload) 4 (length c.answer)) (λ m. refused m 0) (asked c.index) tt e

      comes_back : n ≡ returned_of (asked c.index)
      comes_back = en ∙ ap (λ (z : Wrapped). returned z.number z.place) wrapped ∙ sym (returned_wrapped (asked c.index))

      pub wrap-told : (after : List ℕ) → after ≡ answered r.number (word_of r.length) c.answer → WrapStreamPromise c n o after
      wrap-told after g = rw called (comes_back, (framed, g ∙ rw wrapped))
