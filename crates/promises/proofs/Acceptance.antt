-- Demand 2: what is accepted is what the rules allow, with exactly its numbers, its bit count and the state after it.
-- Assumes nothing.
use Prim.Native.Nat.{ℕ}
use mathlib.Core.Path.{◌≡◌, refl, sym, ◌∙◌, ap}
use mathlib.Core.List.{[], ◌∷◌}
use mathlib.Core.Bool.{Bool, true, false}
use native.Mathlib.Omega.{arith}
use borrow.Author.Tests.{le-leb}
use lib.ListN.{length}
use Rattle.bits.specs.Reader.{got, refused}
use Rattle.bits.specs.Payload.{Range, is_there, bytes_in, whole}
use Rattle.bits.specs.Calls.{◌or◌, first_refusal}
use Rattle.bits.specs.Sampling.{known_index}
use Rattle.bits.proofs.Lawful.{never}
use Rattle.bits.proofs.PayloadLaws.{whole-got, whole_is}
use Rattle.channel.specs.Stream.{Stream, stream}
use Rattle.channel.specs.Promise.{Outputs, have_room, channel}
use Rattle.channel.proofs.PromiseLaws.{outputs-room}
use Rattle.stereo.specs.State.{sound}
use Rattle.stereo.specs.Payload.{payload}
use Rattle.stereo.specs.Carried.{carried}
use Rattle.stereo_reader.specs.Reading.{from, refusal, acceptance, taken, read_bytes, read_from}
use Rattle.stereo.specs.declared.State.{State}
use Rattle.stereo.specs.declared.Contents.{Contents}
use Rattle.stereo_reader.specs.declared.Reading.{Reading}
use Rattle.stereo_writer.proofs.WritingLaws.{accepted}
use Rattle.promises.specs.Allowed.{StreamAllowed, PayloadAllowed}

-- channel streams
module _ (p : Range) (index : ℕ) (o : Outputs) (x : Stream) (bits : ℕ) where
  pub stream-allowed : StreamAllowed p index o x bits → channel p index (have_room o) ≡ got x bits
  unfolding channel
  stream-allowed a =
      rw (
        a.inside,
        le-leb 1024 (length o.lines) a.lines_fit,
        le-leb 120 (length o.factors) a.factors-fit,
        le-leb 120 (length o.books) a.books-fit,
        a.known,
      )
      (whole_is (stream index) (bytes_in p) bits x a.read a.left)

  pub stream-exactly : channel p index (have_room o) ≡ got x bits → StreamAllowed p index o x bits
  unfolding channel
  stream-exactly e = go (is_there p) refl (have_room o) refl (known_index index) refl e
    where
      go : (a : Bool) → is_there p ≡ a → (b : Bool) → have_room o ≡ b → (c : Bool) → known_index index ≡ c
          → first_refusal (a or 1 ∷ b or 2 ∷ c or 3 ∷ []) (λ n. refused n 0) (whole (stream index) (bytes_in p)) ≡ got x bits
          → StreamAllowed p index o x bits
      go false q b r c t e = never e
      go true q false r c t e = never e
      go true q true r false t e = never e
      go true q true r true t e =
          let room = outputs-room (length o.lines) (length o.factors) (length o.books) r in
          let w = whole-got (stream index) (bytes_in p) bits x e in
          record {
            inside = q;
            lines_fit = room.0;
            factors-fit = room.1;
            books-fit = room.2;
            known = t;
            read = w.0;
            left = w.1;
          }

-- stereo payloads
module _ (st : State) (p : Range) where
  pub payload-allowed : (c : Contents) (bits : ℕ) → PayloadAllowed st p c bits
      → read_from st p ≡ acceptance st c bits
  unfolding read_from read_bytes taken
  payload-allowed c bits a =
      rw (a.inside, a.sound, whole_is (payload (from st)) (bytes_in p) bits c a.read a.left, a.step)

  -- the bytes of the range are what was judged
  pub in-range : (read_from st p).number ≡ 0 → (is_there p ≡ true) × (sound st ≡ true) × (read_from st p ≡ read_bytes st (bytes_in p))
  unfolding read_from
  in-range e = go (is_there p) (sound st) e
    where
      read : Bool → Bool → Reading
      read a b = first_refusal (a or 1 ∷ b or 4 ∷ []) (λ n. refusal n 0 st) (read_bytes st (bytes_in p))

      go : (a b : Bool) → (read a b).number ≡ 0 → (a ≡ true) × (b ≡ true) × (read a b ≡ read_bytes st (bytes_in p))
      go true true e = (refl, refl, refl)
      go true false e = absurd (omega arith)
      go false b e = absurd (omega arith)

  pub payload-exactly : (read_from st p).number ≡ 0
      → PayloadAllowed st p (read_from st p).contents (read_from st p).bits
      × ((read_from st p).state ≡ carried (from st) (read_from st p).contents)
  payload-exactly e =
      let i = in-range e in
      let s = bytes_in p in
      let a = accepted st s (ap (λ (r : Reading). r.number) (sym i.2) ∙ e) in
      let w = whole-got (payload (from st)) s (read_bytes st s).bits (read_bytes st s).contents a.read in
      rw i.2 (record { inside = i.0; sound = i.1; read = w.0; left = w.1; step = a.step }, a.state)
