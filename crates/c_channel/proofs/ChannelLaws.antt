-- The two ways in which a call of the channel reader ends: it is refused before it is asked, or what comes back and what is lent are those
-- of the reading.
-- Assumes nothing.
use Prim.Native.Nat.{ℕ, ◌<◌, ◌≤◌}
use mathlib.Core.Path.{◌≡◌, refl, sym, ap, ◌∙◌}
use mathlib.Core.List.{List, [], ◌∷◌}
use mathlib.Core.Bool.{Bool, true, false}
use native.Mathlib.Omega.{arith}
use borrow.Author.Tests.{ne_eqb, ltb-false}
use lib.Dec.{ltb}
use lib.ListN.{length}
use Rattle.bits.specs.Reader.{Answer, got, refused, pick}
use Rattle.bits.specs.Payload.{Range, is_there}
use Rattle.bits.specs.Calls.{◌or◌, first_refusal, first_number, call_tests, returned, returned_of, answered}
use Rattle.bits.proofs.CallLaws.{first-refused, first-passed}
use Rattle.bits.proofs.SamplingLaws.{large_unknown}
use Rattle.channel.specs.Stream.{Stream}
use Rattle.channel.specs.Promise.{Outputs, have_room, channel, reading_of, outputs_after}
use Rattle.channel.specs.declared.Reading.{Reading}
use Rattle.channel.proofs.PromiseLaws.{channel-placed}
use Rattle.c_channel.specs.ReadChannel.{Call, channel_bytes, channel_call, ReadChannelPromise}

-- an index that is too large is unknown, as 0 is: so it is refused whatever else is judged
module _ (p : Range) (index : ℕ) (room : Bool) where
  -- the number of the refusal that stands before the index, or the index's
  abbrev pub unread : Answer Stream
  unread = first_refusal (is_there p or 1 ∷ room or 2 ∷ []) (λ n. refused n 0) (refused 3 0)

  -- one that is too large is never read
  pub large-refused : ltb index 256 ≡ false → channel p index room ≡ unread
  unfolding channel
  large-refused e =
      let h = ltb-false index 256 e in
      rw (large_unknown index (omega arith))

  narrowed-by : (b : Bool) → ltb index 256 ≡ b → channel p (pick b index 0) room ≡ channel p index room
  unfolding channel
  narrowed-by true e = refl
  narrowed-by false e = sym (large-refused e)

  -- an index that was narrowed for the reader
  pub narrowed : channel p (pick (ltb index 256) index 0) room ≡ channel p index room
  narrowed = narrowed-by (ltb index 256) refl

-- what comes back of an answer is its reading's number, with its place
pub returned-reading : (x : Answer Stream) → returned_of x ≡ returned (reading_of x).number (reading_of x).place
returned-reading (got a next) = refl
returned-reading (refused n place) = refl

-- where no refusal is placed further than so many bits, no reading's place is
pub reading-placed : (most : ℕ) (x : Answer Stream) → ((n p : ℕ) → x ≡ refused n p → p ≤ most) → (reading_of x).place ≤ most
reading-placed most (got a next) f = omega arith
reading-placed most (refused n place) f = f n place refl

module _ (c : Call) where
  pub call-refused : (n : ℕ) → n ≡ first_number (call_tests (is_there c.payload) 17 (length c.answer)) → (n ≡ 0 → ⊥)
      → ReadChannelPromise c n c.outputs c.answer
  unfolding channel_call
  call-refused n e h =
      let tests = call_tests (is_there c.payload) 17 (length c.answer) in
      let r = first-refused tests (λ m. refused m 0) (channel c.payload c.index (have_room c.outputs)) (rw e at h) in
      rw (r, ← e, ne_eqb n 0 h) (omega arith, (refl, refl))

  -- the reader is asked with an index that was narrowed
  module _ (e : first_number (call_tests (is_there c.payload) 17 (length c.answer)) ≡ 0) (i : ℕ)
      (ei : i ≡ pick (ltb c.index 256) c.index 0) where
    abbrev read : Answer Stream
    read = channel c.payload i (have_room c.outputs)

    asked : channel_call c ≡ read
    unfolding channel_call
    asked =
        first-passed (call_tests (is_there c.payload) 17 (length c.answer)) (λ m. refused m 0) _ tt e
        ∙ sym (narrowed c.payload c.index (have_room c.outputs))
        ∙ ap (λ (k : ℕ). channel c.payload k (have_room c.outputs)) (sym ei)

    -- the place of a refusal leaves room for its number
    pub place_short : (r : Reading) → r ≡ reading_of read → r.place < 16777216
    place_short r er =
        let same = ap (λ (y : Reading). y.place) er in
        let near = reading-placed 38008 read (channel-placed c.payload i (have_room c.outputs)) in
        omega arith

    module _ (r : Reading) (o : Outputs) (er : r ≡ reading_of read) (eo : o ≡ outputs_after read c.outputs) (n : ℕ)
        (en : n ≡ returned r.number r.place) where
      comes_back : n ≡ returned_of read
      comes_back = en ∙ rw er (sym (returned-reading read))

      pub read_told : (told : List ℕ) → told ≡ answered r.number (channel_bytes r) c.answer → ReadChannelPromise c n o told
      read_told told et = rw asked (comes_back, (eo, et ∙ rw er))
