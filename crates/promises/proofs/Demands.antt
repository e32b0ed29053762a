-- The three demands as theorems, each by what is proved of the parts. Of demand 1, which numbers come back stands in `Refusals`, what a
-- refusal leaves in `Untouched`, and that no proper prefix of an image is taken in `ImageCut`.
-- Assumes nothing.
use Prim.Native.Nat.{ℕ, ◌*◌, ◌<◌, ◌≤◌}
use mathlib.Core.Path.{◌≡◌, sym, ap, ◌∙◌}
use mathlib.Core.Logic.{◌≢◌}
use mathlib.Core.List.{List, [], ◌∷◌, ◌++◌}
use mathlib.Core.Bool.{Bool, true}
use lib.ListN.{length, take, drop}
use Rattle.bits.specs.Bits.{bit_at}
use Rattle.bits.specs.Reader.{got, refused}
use Rattle.bits.specs.Payload.{Range, range_in, is_there, bytes_in, whole}
use Rattle.bits.specs.Packed.{bytes_for}
use Rattle.bits.proofs.Exact.{ReadTo}
use Rattle.channel.specs.Stream.{Stream, stream}
use Rattle.channel.specs.Promise.{Outputs, have_room, channel}
use Rattle.channel.proofs.PromiseLaws.{channel-placed}
use Rattle.adts.specs.Promise.{header_at, stream_at}
use Rattle.adts_laws.proofs.FramePlaces.{frame-placed}
use Rattle.channel.proofs.Demands.{only_the_range, cut-is_10}
use Rattle.stereo.specs.State.{fresh, sound, lost}
use Rattle.stereo.specs.Payload.{payload}
use Rattle.stereo_reader.specs.Reading.{from, refusal, acceptance, read_bytes, read_from}
use Rattle.stereo.specs.declared.State.{State}
use Rattle.stereo.specs.declared.Contents.{Contents}
use Rattle.stereo_reader.proofs.ReadingLaws.{outside_counts_not, read-cut}
use Rattle.stereo.specs.Carried.{carried}
use Rattle.stereo_writer.specs.Writing.{unwritten, writing, written_over}
use Rattle.stereo_writer.proofs.WritingLaws.{forty-only}
use Rattle.runs.specs.Machine.{Event, payload as given, missing, reported, origin, concluded, Turn, run, after, turn}
use Rattle.runs.specs.Damage.{Restarting, NoRestart, AllLost, Silent}
use Rattle.runs.proofs.TurnLaws.{own_turn, own-report}
use Rattle.runs.proofs.Demand.{restored, nothing-between, run-from}
use Rattle.c_stereo.specs.StateCalls.{fresh_after}
use Rattle.promises.specs.Run.{stereo}
use Rattle.promises.specs.Allowed.{StreamAllowed, PayloadAllowed}
use Rattle.promises.specs.CallRun.{calls, lent_calls, byte_calls, Faithful}
use Rattle.promises.proofs.Turns.{steady}
use Rattle.promises.proofs.Places.{channel-inside, stereo-inside}
use Rattle.promises.proofs.Acceptance.{stream-allowed, stream-exactly, payload-allowed, payload-exactly}
use Rattle.promises.proofs.RoundTrips.{written_back, read_back, forty_exactly}
use Rattle.promises.proofs.CallRuns.{by_value, over_lent, from-fresh-bytes}
-- demand 1, of a frame of an ADTS file: files that hold the same frame give the same answers, and the same bits are cut out of them; which
-- numbers come back, and what a refusal leaves, stands in `FrameNumbers`
pub use Rattle.adts_laws.proofs.FrameCalls.{outside-header, outside-stream, outside-cut}
-- demand 2, of a frame: it is accepted exactly where the rules allow it
pub use Rattle.promises.proofs.FrameAcceptance.{frame-allowed, frame-exactly}
-- a stream that is wrapped is read to its numbers and unwrapped to its bits; what is unwrapped is a payload with the frame's numbers, and
-- wrapped again it reads the same
pub use Rattle.promises.proofs.FrameTrips.{wrap-read, wrap-unwrap, unwrap-agrees, unwrap-read, again-wraps, again-reads}
-- demand 2, for C: what a program takes out of the bytes of a channel answer and of a frame's answer is what the call answers
pub use Rattle.promises.proofs.AnswersBack.{channel-back}
pub use Rattle.promises.proofs.FrameBack.{framed-back}
-- and all parts of an image at once are its parts one by one
pub use Rattle.promises.proofs.PartsBack.{parts-back}
-- and what it takes out of what comes back is the number, 0 or of the table, and the place: none is lost
pub use Rattle.bits.proofs.CallLaws.{number-kept, place_kept}
pub use Rattle.promises.proofs.Returned.{channel-returned, stereo-returned, frame-returned, unwrap-returned, wrap-returned}

-- demand 1, of a channel stream: no bit outside the range counts, and no cut goes unseen
pub channel-outside : (p q : Range) (index : ℕ) (room : Bool) → is_there p ≡ true → is_there q ≡ true → bytes_in p ≡ bytes_in q
    → channel p index room ≡ channel q index room
channel-outside = only_the_range

pub channel-cut : (index : ℕ) (bytes : List ℕ) (next : ℕ) (x : Stream) (k : ℕ) → whole (stream index) bytes ≡ got x next → 8 * k < next
    → (place : ℕ) × (whole (stream index) (take k bytes) ≡ refused 10 place)
channel-cut = cut-is_10

-- and of a stereo payload
pub outside : (st : State) (p q : Range) → is_there p ≡ true → is_there q ≡ true → bytes_in p ≡ bytes_in q → read_from st p ≡ read_from st q
outside = outside_counts_not

pub cut : (st : State) (s : List ℕ) (next : ℕ) (c : Contents) (k : ℕ) → whole (payload (from st)) s ≡ got c next → 8 * k < next
    → (place : ℕ) × (read_bytes st (take k s) ≡ refusal 10 place (lost st))
cut = read-cut

-- the place of a refusal lies in the payload, or at its end
pub channel-place : (p : Range) (index : ℕ) (room : Bool) (n place : ℕ) → channel p index room ≡ refused n place
    → (place ≤ 8 * length (bytes_in p)) × (place ≤ 38008)
channel-place p index room n place e = (channel-inside p index room n place e, channel-placed p index room n place e)

pub stereo-place : (st : State) (p : Range) → ((read_from st p).place ≤ 8 * length (bytes_in p)) × ((read_from st p).place ≤ 8200)
stereo-place = stereo-inside

pub frame-place : (file : List ℕ) (start : ℕ) (room : Bool) (n place : ℕ) →
    stream_at file start (header_at file start room) ≡ refused n place
    → place ≤ 65528
frame-place = frame-placed

-- demand 2: a channel stream is accepted exactly where the rules allow it, with exactly its numbers and bit count
module _ (p : Range) (index : ℕ) (o : Outputs) (x : Stream) (bits : ℕ) where
  pub streams-accepted : StreamAllowed p index o x bits → channel p index (have_room o) ≡ got x bits
  streams-accepted = stream-allowed p index o x bits

  pub no-other-stream : channel p index (have_room o) ≡ got x bits → StreamAllowed p index o x bits
  no-other-stream = stream-exactly p index o x bits

-- and so is a stereo payload, with the state after it
module _ (st : State) (p : Range) where
  pub payloads-accepted : (c : Contents) (bits : ℕ) → PayloadAllowed st p c bits
      → read_from st p ≡ acceptance st c bits
  payloads-accepted = payload-allowed st p

  pub no-other-payload : (read_from st p).number ≡ 0
      → PayloadAllowed st p (read_from st p).contents (read_from st p).bits
      × ((read_from st p).state ≡ carried (from st) (read_from st p).contents)
  no-other-payload = payload-exactly st p

-- what the buffer holds after `write` reads back the same
pub written_reads : (st : State) (c : Contents) (out : List ℕ) → (writing st c (length out)).number ≡ 0
    → read_from st (range_in (written_over (writing st c (length out)) st c out) 0 (bytes_for (writing st c (length out)).bits))
    ≡ record { number = 0; place = 0; bits = (writing st c (length out)).bits; contents = c; state = (writing st c (length out)).state }
written_reads = written_back

-- and what was read from a range is written back to its bits, from the same state, into a buffer that has room
pub read_writes : (st : State) (p : Range) (out : List ℕ) → (read_from st p).number ≡ 0 → bytes_for (read_from st p).bits ≤ length out
    → (writing st (read_from st p).contents (length out)
    ≡ record { number = 0; bits = (read_from st p).bits; state = (read_from st p).state })
    × ((i : ℕ) → i < (read_from st p).bits
    → bit_at (written_over (writing st (read_from st p).contents (length out)) st (read_from st p).contents out) i ≡ bit_at (bytes_in p) i)
read_writes = read_back

-- 40, from a sound state, exactly where no payload that is read from it has the contents
pub forty-is : (st : State) (c : Contents) (room : ℕ) → (writing st c room).number ≡ 40
    → (sound st ≡ true) × (ReadTo (payload (from st)) c → ⊥)
forty-is = forty_exactly

pub is-forty : (st : State) (c : Contents) (room : ℕ) → sound st ≡ true → (ReadTo (payload (from st)) c → ⊥)
    → writing st c room ≡ unwritten 40 st
is-forty = forty-only

-- in a run from the fresh state 4 does not arise, and 1 only where a range is outside its buffer
pub own-refusals : (es : List Event) (p : Range) → is_there p ≡ true
    → turn stereo (after stereo stereo.fresh es) (given p)
    ≡ concluded stereo (after stereo stereo.fresh es) (stereo.read (origin stereo (after stereo stereo.fresh es)) (bytes_in p))
own-refusals = own_turn stereo steady

pub reports-taken : (es : List Event)
    → turn stereo (after stereo stereo.fresh es) missing ≡ record { outcome = reported; state = lost (after stereo stereo.fresh es) }
reports-taken = own-report stereo steady

-- demand 3: in place of a stretch of a run stand any other events; between it and the payload none is a restart; the payload is one
module _ (before stretch spoilt between : List Event) (p : Range) (rest : List Event) where
  pub in-step-again : Restarting stereo (turn stereo (after stereo stereo.fresh (before ++ stretch ++ between)) (given p))
      → run stereo (after stereo stereo.fresh (before ++ spoilt ++ between)) (given p ∷ rest)
      ≡ run stereo (after stereo stereo.fresh (before ++ stretch ++ between)) (given p ∷ rest)
  in-step-again = restored stereo steady before stretch spoilt between p rest

  pub silent-till-then : spoilt ≢ [] → AllLost (run stereo (after stereo stereo.fresh before) spoilt)
      → NoRestart stereo (run stereo (after stereo stereo.fresh (before ++ stretch)) between)
      → Silent (run stereo (after stereo stereo.fresh (before ++ spoilt)) between)
  silent-till-then = nothing-between stereo steady before stretch spoilt between p rest

-- the ways of calling are faithful: by value, over a lent state, and for C over the bytes that oarcradler_fresh_state filled
pub calls-faithful : Faithful (calls fresh)
calls-faithful = by_value fresh

pub lent_faithful : Faithful (lent_calls fresh)
lent_faithful es = over_lent fresh es ∙ by_value fresh es

pub bytes-faithful : (s answer : List ℕ) → 146 ≤ length s → 582 ≤ length answer
    → Faithful (byte_calls (record { state = fresh_after s; answer = answer }))
bytes-faithful s answer h g es = from-fresh-bytes s answer es h g

-- demand 3 of what is called, in any faithful way: from the restart on answers and states are those of the unspoilt run, and between a
-- stretch that was wholly lost and that restart nothing is answered
module _ (answers : List Event → List (Turn State Contents)) (same : Faithful answers) (before stretch spoilt between : List Event)
    (p : Range) (rest : List Event) where
  -- what is answered to events after others
  after-others : (es fs : List Event) → drop (length es) (answers (es ++ fs)) ≡ run stereo (after stereo stereo.fresh es) fs
  after-others es fs = ap (drop (length es)) (same (es ++ fs)) ∙ run-from stereo stereo.fresh es fs

  pub answers-again : Restarting stereo (turn stereo (after stereo stereo.fresh (before ++ stretch ++ between)) (given p))
      → drop (length (before ++ spoilt ++ between)) (answers (before ++ spoilt ++ between ++ (given p ∷ rest)))
      ≡ drop (length (before ++ stretch ++ between)) (answers (before ++ stretch ++ between ++ (given p ∷ rest)))
  answers-again w =
      after-others (before ++ spoilt ++ between) (given p ∷ rest)
      ∙ in-step-again before stretch spoilt between p rest w
      ∙ sym (after-others (before ++ stretch ++ between) (given p ∷ rest))

  pub answers-silent : spoilt ≢ [] → AllLost (drop (length before) (answers (before ++ spoilt)))
      → NoRestart stereo (drop (length (before ++ stretch)) (answers (before ++ stretch ++ between)))
      → Silent (drop (length (before ++ spoilt)) (answers (before ++ spoilt ++ between)))
  answers-silent d q n =
      rw (after-others (before ++ spoilt) between)
      (silent-till-then before stretch spoilt between p rest d (rw (after-others before spoilt) at q)
      (rw (after-others (before ++ stretch) between) at n))
