-- The round trips: what is written is read to the same contents, count and state; what was read is written back to the
-- bits that it used. And 40 is given exactly where no payload has the contents.
-- Assumes nothing.
use Prim.Native.Nat.{ℕ, ◌*◌, ◌<◌, ◌≤◌}
use mathlib.Core.Path.{◌≡◌, refl, ap}
use mathlib.Core.List.{List}
use mathlib.Core.Bool.{Bool, true, false, ◌||◌}
use native.Mathlib.Omega.{arith}
use lib.Dec.{leb}
use lib.ListN.{length, replicate}
use borrow.Author.Tests.{le-leb}
use Rattle.bits.specs.Bits.{bit_at}
use Rattle.bits.specs.Reader.{Answer, got, refused, pick}
use Rattle.bits.specs.Payload.{whole}
use Rattle.bits.specs.Pieces.{total}
use Rattle.bits.specs.Packed.{put_all, bytes_for, packed}
use Rattle.bits.specs.Writable.{matches, writable}
use Rattle.bits.proofs.PayloadLaws.{whole-got, whole_is}
use Rattle.bits.proofs.PackedLaws.{packed-length}
use Rattle.bits.proofs.Exact.{ReadTo, can, cannot, written_read, read-writable, gives_back, scratch-read}
use Rattle.stereo.specs.State.{sound, lost}
use Rattle.stereo.specs.Payload.{payload}
use Rattle.stereo.specs.Carried.{carried}
use Rattle.stereo.specs.Restart.{restart}
use Rattle.stereo_reader.specs.Reading.{from, refusal, acceptance, taken, reading_of, read_bytes}
use Rattle.stereo.specs.declared.State.{State}
use Rattle.stereo.specs.declared.Contents.{Contents}
use Rattle.stereo_reader.specs.declared.Reading.{Reading}
use Rattle.stereo_writer.specs.declared.Written.{Written}
use Rattle.stereo_writer.specs.Spelling.{spelling}
use Rattle.stereo_writer.specs.Same.{same_contents}
use Rattle.stereo_writer.specs.Writing.{can_write, unwritten, writing}
use Rattle.stereo.proofs.PayloadLaws.{payload-lawful}
use Rattle.stereo_laws.proofs.PayloadNumbers.{whole-not_0}
use Rattle.stereo_writer.proofs.SpellingLaws.{payload-spelt}
use Rattle.stereo_writer.proofs.SameLaws.{contents-right}

-- contents that can be written are those of some payload, and contents that can't are of none
pub can-write : (st : State) (c : Contents) → can_write st c ≡ true → ReadTo (payload st) c
unfolding can_write
can-write st = can (payload st) (spelling st) (λ c. Unit) (payload-lawful st) (payload-spelt st) same_contents contents-right.is
    contents-right.self

pub cannot_write : (st : State) (c : Contents) → can_write st c ≡ false → ReadTo (payload st) c → ⊥
unfolding can_write
cannot_write st = cannot (payload st) (spelling st) (λ c. Unit) (payload-lawful st) (payload-spelt st) same_contents contents-right.is
    contents-right.self

-- their spelling is read to them, with every bit used
spelling-is : (st : State) (c : Contents) → can_write st c ≡ true
    → payload st (packed (spelling st c)) 0 (total (spelling st c)) ≡ got c (total (spelling st c))
unfolding can_write
spelling-is st = written_read (payload st) (spelling st) (λ c. Unit) (payload-lawful st) (payload-spelt st) same_contents
    contents-right.is contents-right.self

pub bytes_read : (st : State) (c : Contents) → can_write st c ≡ true
    → whole (payload st) (packed (spelling st c)) ≡ got c (total (spelling st c))
bytes_read st c e =
    let w = spelling st c in
    let l = packed-length (spelling st c) in
    whole_is (payload st) (packed w) (total w) c
    ((payload-lawful st).accepts.stable (packed w) 0 (total w) (total w) (8 * length (packed w)) c (omega arith) (spelling-is st c e)
    (omega arith)) (omega arith)

-- contents that were read can be written
pub read-can : (st : State) (s : List ℕ) (n : ℕ) (c : Contents) → whole (payload st) s ≡ got c n → can_write st c ≡ true
unfolding can_write
read-can st s n c e =
    read-writable (payload st) (spelling st) (λ c. Unit) (payload-lawful st) (payload-spelt st) same_contents contents-right.is
    contents-right.self s
    (8 * length s) n c (whole-got (payload st) s n c e).0

-- contents that were read are spelled in the bits that they used
pub read-bits : (st : State) (s : List ℕ) (n : ℕ) (c : Contents) → whole (payload st) s ≡ got c n
    → (n ≡ total (spelling st c)) × ((i : ℕ) → i < n → bit_at (packed (spelling st c)) i ≡ bit_at s i)
read-bits st s n c e =
    gives_back (payload st) (spelling st) (λ c. Unit) (payload-lawful st) (payload-spelt st) s (8 * length s) n c
    (whole-got (payload st) s n c e).0

-- what an accepted payload was read to
pub record Accepted (st : State) (s : List ℕ) : Type 0 where
  pub read : whole (payload (from st)) s ≡ got (read_bytes st s).contents (read_bytes st s).bits
  pub step : (st.instep || restart (read_bytes st s).contents) ≡ true
  pub state : (read_bytes st s).state ≡ carried (from st) (read_bytes st s).contents

pub accepted : (st : State) (s : List ℕ) → (read_bytes st s).number ≡ 0 → Accepted st s
unfolding read_bytes taken
accepted st s e = answer (whole (payload (from st)) s) refl
  where
    Of : Reading → Type 0
    Of r =
        (whole (payload (from st)) s ≡ got r.contents r.bits) × ((st.instep || restart r.contents) ≡ true)
        × (r.state ≡ carried (from st) r.contents)

    step : (c : Contents) (n : ℕ) → whole (payload (from st)) s ≡ got c n → (t : Bool) → (st.instep || restart c) ≡ t
        → (pick t (acceptance st c n) (refusal 35 n (lost st))).number ≡ 0
        → Of (pick t (acceptance st c n) (refusal 35 n (lost st)))
    step c n q true h e = (q, h, refl)
    step c n q false h e = absurd (omega arith)

    go : (a : Answer Contents) → whole (payload (from st)) s ≡ a → (reading_of st a).number ≡ 0 → Of (reading_of st a)
    go (got c n) q e = step c n q (st.instep || restart c) refl e
    go (refused n p) q e = absurd (whole-not_0 (from st) s n p q e)

    answer : (a : Answer Contents) → whole (payload (from st)) s ≡ a → Accepted st s
    answer a q = let w = go (whole (payload (from st)) s) refl e in record { read = w.0; step = w.1; state = w.2 }

-- what a success of the writer says
pub record Success (st : State) (c : Contents) (w : Written) : Type 0 where
  pub stands : sound st ≡ true
  pub can : can_write (from st) c ≡ true
  pub step : (st.instep || restart c) ≡ true
  pub bits : w.bits ≡ total (spelling (from st) c)
  pub state : w.state ≡ carried (from st) c

pub success : (st : State) (c : Contents) (room : ℕ) → (writing st c room).number ≡ 0 → Success st c (writing st c room)
unfolding writing
success st c room e =
    go (sound st) refl (can_write (from st) c) refl (st.instep || restart c) refl (leb (bytes_for (total (spelling (from st) c))) room) e
  where
    made : Bool → Bool → Bool → Bool → Written
    made a b d f =
        pick a (pick b (pick d (pick f (record { number = 0; bits = total (spelling (from st) c); state = carried (from st) c })
        (unwritten 2 st)) (unwritten 35 st)) (unwritten 40 st))
        (unwritten 4 st)

    go : (a : Bool) → sound st ≡ a → (b : Bool) → can_write (from st) c ≡ b → (d : Bool) → (st.instep || restart c) ≡ d → (f : Bool)
        → (made a b d f).number ≡ 0 → Success st c (made a b d f)
    go false p b q d r f k = absurd (omega arith)
    go true p false q d r f k = absurd (omega arith)
    go true p true q false r f k = absurd (omega arith)
    go true p true q true r false k = absurd (omega arith)
    go true p true q true r true k = record { stands = p; can = q; step = r; bits = refl; state = refl }

-- what is written is accepted from the same state, with those contents, that bit count and the same next state
pub write_read : (st : State) (c : Contents) (room : ℕ) → (writing st c room).number ≡ 0
    → read_bytes st (packed (spelling (from st) c))
    ≡ record { number = 0; place = 0; bits = (writing st c room).bits; contents = c; state = (writing st c room).state }
unfolding read_bytes taken
write_read st c room e =
    let w = success st c room e in
    rw (bytes_read (from st) c w.can, w.step, w.bits, w.state)

-- writing an accepted payload's contents from the same state, into enough room, gives its count and state, and the bits that it used
pub read-write : (st : State) (s : List ℕ) (room : ℕ) → sound st ≡ true → (read_bytes st s).number ≡ 0
    → bytes_for (read_bytes st s).bits ≤ room
    → (writing st (read_bytes st s).contents room ≡ record { number = 0; bits = (read_bytes st s).bits; state = (read_bytes st s).state })
    × ((i : ℕ) → i < (read_bytes st s).bits → bit_at (packed (spelling (from st) (read_bytes st s).contents)) i ≡ bit_at s i)
unfolding writing
read-write st s room h e l =
    let a = accepted st s e in
    let c = (read_bytes st s).contents in
    let b = read-bits (from st) s (read_bytes st s).bits (read_bytes st s).contents a.read in
    let fits : leb (bytes_for (total (spelling (from st) (read_bytes st s).contents))) room ≡ true = rw (← b.0) (le-leb _ _ l) in
    (rw (h, read-can (from st) s (read_bytes st s).bits (read_bytes st s).contents a.read, a.step, fits, b.0, a.state), b.1)

-- 40, of a sound state, exactly where no payload that is read from it has these contents
pub forty : (st : State) (c : Contents) (room : ℕ) → (writing st c room).number ≡ 40 → ReadTo (payload (from st)) c → ⊥
unfolding writing
forty st c room e = cannot_write (from st) c
    (go (sound st) (can_write (from st) c) refl (st.instep || restart c) (leb (bytes_for (total (spelling (from st) c))) room) e)
  where
    go : (a b : Bool) → can_write (from st) c ≡ b → (d f : Bool)
        → (pick a (pick b (pick d (pick f (record { number = 0; bits = total (spelling (from st) c); state = carried (from st) c })
        (unwritten 2 st)) (unwritten 35 st)) (unwritten 40 st))
        (unwritten 4 st)).number ≡ 40
        → can_write (from st) c ≡ false
    go false b q d f k = absurd (omega arith)
    go true false q d f k = q
    go true true q false f k = absurd (omega arith)
    go true true q true false k = absurd (omega arith)
    go true true q true true k = absurd (omega arith)

pub forty-only : (st : State) (c : Contents) (room : ℕ) → sound st ≡ true → (ReadTo (payload (from st)) c → ⊥)
    → writing st c room ≡ unwritten 40 st
unfolding writing
forty-only st c room h f = rw (h, cases (can_write (from st) c) (λ e. f (can-write (from st) c e)))
  where
    cases : (b : Bool) → (b ≡ true → ⊥) → b ≡ false
    cases true f = absurd (f refl)
    cases false f = refl

-- reading the scratch array back tells whether contents can be written
pub spelled-can : (st : State) (c : Contents) {s : List ℕ} {n : ℕ} → s ≡ put_all (replicate 1536 0) 0 (spelling st c)
    → n ≡ total (spelling st c)
    → n ≤ 10952 → matches same_contents (payload st s 0 n) c ≡ can_write st c
unfolding can_write writable
spelled-can st c e q h =
    rw (e, q)
    (ap (λ (a : Answer Contents). matches same_contents a c)
    (scratch-read (payload st) (payload-lawful st) 1536 (spelling st c)
    (let l : total (spelling st c) ≤ 10952 = rw (← q) h in omega arith)))
