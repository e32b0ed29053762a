-- What a program in C takes out of the bytes of an accepted channel call's answer is what the call answers: a stream takes 38,000 bits at
-- most, so that the word holds its number, and every other number is a byte as it is.
-- Assumes nothing.
use Prim.Native.Nat.{ℕ, ◌*◌, ◌-◌, ◌<◌, ◌≤◌}
use mathlib.Core.Path.{◌≡◌, refl, sym, ap, ◌∙◌}
use mathlib.Core.List.{List, [], ◌∷◌, ◌++◌}
use mathlib.Core.Bool.{Bool, true, false}
use native.Mathlib.Omega.{arith}
use lib.Dec.{leb}
use lib.ListN.{length, take, drop, length-append, length-replicate}
use lib.Seq.{take-append_seam}
use Rattle.bits.specs.Reader.{got, refused}
use Rattle.bits.specs.Bytes.{word_of}
use Rattle.bits.specs.Calls.{◌or◌, first_refusal}
use Rattle.bits.specs.Payload.{Range, is_there, bytes_in}
use Rattle.bits.proofs.FourBytes.{word_back}
use Rattle.bits.proofs.Lawful.{never}
use Rattle.bits.proofs.OverLaws.{over-front}
use Rattle.channel_bands.specs.Grouping.{in_eight}
use Rattle.channel_bands.proofs.GroupCounts.{groups-few}
use Rattle.channel_side.specs.Window.{is_short, groups}
use Rattle.channel.specs.declared.stream.Head.{Head}
use Rattle.channel.specs.Stream.{Stream}
use Rattle.channel.specs.Promise.{Outputs, have_room, accepted, channel}
use Rattle.channel.proofs.StreamNear.{stream-near}
use Rattle.c_channel.specs.ReadChannel.{Call, channel_bytes, channel_call, channel_answer_after}
use Rattle.promises.specs.AnswerAt.{reading_at}
use Rattle.promises.proofs.Acceptance.{stream-exactly}

-- a stream that a call accepts takes few bits
pub channel-few : (p : Range) (index : ℕ) (o : Outputs) (bits : ℕ) (x : Stream) → channel p index (have_room o) ≡ got x bits → bits ≤ 38000
channel-few p index o bits x e =
    let s = bytes_in p in
    let read = (stream-exactly p index o x bits e).read in
    omega (arith, (stream-near index).law s 0 (8 * length s) bits x read)

eight : (h : Head) → length (in_eight (groups h.window)) ≡ 8
eight h =
    let few = groups-few (is_short h.window) h.window.grouping in
    length-append (groups h.window) _ ∙ omega (arith, length-replicate {A = ℕ} (8 - length (groups h.window)) 0)

pub reading-long : (h : Head) (bits : ℕ) → length (channel_bytes (accepted h bits)) ≡ 17
unfolding channel_bytes word_of
reading-long h bits = let e = eight h in omega arith

pub reading-back : (h : Head) (bits : ℕ) (rest : List ℕ) → bits < 4294967296
    → reading_at (channel_bytes (accepted h bits) ++ rest) ≡ accepted h bits
unfolding channel_bytes word_of
reading-back h bits rest l =
    let r = accepted h bits in
    let few : take 8 (r.groups ++ rest) ≡ r.groups = ap (λ (n : ℕ). take n (r.groups ++ rest)) (sym (eight h))
    ∙ take-append_seam r.groups rest in
    let word = word_back [] (drop 4 (channel_bytes r ++ rest)) bits l in
    λ j. record {
      number = 0;
      place = 0;
      gain = r.gain;
      sequence = r.sequence;
      shape = r.shape;
      max_sfb = r.max_sfb;
      group_count = r.group_count;
      groups = few j;
      bits = word j;
    }

module _ (c : Call) where
  -- a call that is accepted is the reader's
  own : (x : Stream) (bits : ℕ) → channel_call c ≡ got x bits → channel c.payload c.index (have_room c.outputs) ≡ got x bits
  unfolding channel_call
  own x bits = go (is_there c.payload) (leb 17 (length c.answer))
    where
      go : (a b : Bool)
          → first_refusal (a or 1 ∷ b or 2 ∷ []) (λ n. refused n 0) (channel c.payload c.index (have_room c.outputs)) ≡ got x bits
          → channel c.payload c.index (have_room c.outputs) ≡ got x bits
      go true true e = e
      go true false e = never e
      go false b e = never e

  pub channel-back : (x : Stream) (bits : ℕ) → channel_call c ≡ got x bits
      → reading_at (channel_answer_after (got x bits) c.answer) ≡ accepted x.head bits
  channel-back x bits e =
      let few = channel-few c.payload c.index c.outputs bits x (own x bits e) in
      ap reading_at (over-front c.answer (channel_bytes (accepted x.head bits)) _ refl) ∙ reading-back x.head bits _ (omega arith)
