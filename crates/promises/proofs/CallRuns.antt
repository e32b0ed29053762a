-- A run of calls is a run of the machine: of the reader by value, over a lent state, and for C over kept bytes.
-- Assumes nothing.
use Prim.Native.Nat.{ℕ, zero, suc, ◌*◌, ◌<◌, ◌≤◌}
use mathlib.Core.Path.{◌≡◌, refl, sym, ap, ◌∙◌}
use mathlib.Core.List.{List, [], ◌∷◌, ◌++◌, append-nil}
use mathlib.Core.Bool.{Bool, true, false, ◌&&◌, ◌||◌}
use native.Mathlib.Omega.{arith}
use borrow.Author.Tests.{le-leb, eqb-true, eq-eqb, ne_eqb}
use lib.Dec.{eqb}
use lib.ListN.{length, get_or, drop, length-set, length-append, length-drop}
use lib.Seq.{get_or-set_same, get_or-set_other}
use Rattle.bits.specs.Reader.{Answer, got, refused, pick}
use Rattle.bits.specs.Bytes.{flag_byte, over}
use Rattle.bits.specs.Payload.{Range, range_in, is_there, bytes_in, whole}
use Rattle.bits.specs.Calls.{returned}
use Rattle.bits.proofs.CallLaws.{Passed, number-kept, place_kept}
use Rattle.bits.proofs.Bools.{and_both, and_of, true-false}
use Rattle.bits.proofs.OverLaws.{over-front}
use Rattle.bits.proofs.PayloadLaws.{whole-got}
use Rattle.stereo.specs.State.{fresh, sound, lost}
use Rattle.stereo.specs.Payload.{payload as payload-reader}
use Rattle.stereo.specs.Restart.{restart}
use Rattle.stereo.specs.declared.State.{State}
use Rattle.stereo.specs.declared.Contents.{Contents}
use Rattle.stereo.proofs.PayloadNear.{payload-near}
use Rattle.stereo_laws.proofs.SoundLaws.{carried-sound}
use Rattle.stereo_laws.proofs.PayloadNumbers.{whole-not_0}
use Rattle.stereo_reader.specs.Reading.{from, refusal, acceptance, taken, reading_of, read_bytes, read_from, missing}
use Rattle.stereo_reader.specs.declared.Reading.{Reading}
use Rattle.stereo.proofs.StateLaws.{fresh-sound, lost-sound}
use Rattle.c_layout.specs.StateBytes.{state_head, state_bytes, state_at, is_flag, sound_bytes}
use Rattle.c_layout.specs.ContentsBytes.{answer_bytes}
use Rattle.c_layout.proofs.StateLaws.{sound-parts, sound_of, flagged}
use Rattle.c_layout.proofs.BackLaws.{ContentsFit, StateFits, state-back, contents-back, bits_back}
use Rattle.c_stereo.specs.StateCalls.{fresh_after, lost_bytes}
use Rattle.c_stereo.specs.ReadStereo.{tests_of, stereo_returned, stereo_state_after, stereo_answer_after}
use Rattle.image.specs.Image.{bytes_of}
use Rattle.image_outline.specs.Answers.{is_even, stereo_in, state_from, state_before}
use Rattle.runs.specs.Machine.{Event, payload, missing as reporting, reported, Turn, turn, run, after}
use Rattle.runs.proofs.TurnLaws.{origin-sound}
use Rattle.runs.proofs.Demand.{after-append, run-append}
use Rattle.promises.specs.Run.{stereo, turn_of, report_of}
use Rattle.promises.specs.CallRun.{calls, lent_calls, Kept, call_of, kept_after, byte_outcome, byte_calls}
use Rattle.promises.specs.CallRun.{odd_payload, odd_payloads, odd_turns}
use Rattle.promises.proofs.OverBytes.{lost-bytes}
use Rattle.promises.proofs.Turns.{steady, reads, reports}
use Rattle.promises.proofs.Untouched.{bytes-touching}
use Rattle.promises.proofs.Refusals.{bytes-answered, answered-small}
use Rattle.promises.proofs.FitLaws.{payload-fits, fresh-fits, carried-fits, state-at-fits}

-- a turn, and a run from the state that it leaves
next : (st : State) (e : Event) (t : Turn State Contents) → turn stereo st e ≡ t → (es : List Event)
    → run stereo st (e ∷ es) ≡ t ∷ run stereo t.state es
next st e t q es = ap (λ (u : Turn State Contents). u ∷ run stereo u.state es) q

pub by_value : (st : State) (es : List Event) → calls st es ≡ run stereo st es
by_value st [] = refl
by_value st (payload p ∷ es) =
    ap (λ (ts : List (Turn State Contents)). turn_of (read_from st p) ∷ ts) (by_value (read_from st p).state es)
    ∙ sym (next st (payload p) (turn_of (read_from st p)) (reads st p) es)
by_value st (reporting ∷ es) =
    ap (λ (ts : List (Turn State Contents)). report_of (missing st) ∷ ts) (by_value (missing st).state es)
    ∙ sym (next st reporting (report_of (missing st)) (reports st) es)

pub over_lent : (st : State) (es : List Event) → lent_calls st es ≡ calls st es
over_lent st [] = refl
over_lent st (payload p ∷ es) =
    ap (λ (ts : List (Turn State Contents)). turn_of (read_from st p) ∷ ts) (over_lent (read_from st p).state es)
over_lent st (reporting ∷ es) = ap (λ (ts : List (Turn State Contents)). report_of (missing st) ∷ ts) (over_lent (missing st).state es)

-- what an accepted reading from a sound state holds fits its bytes
record Well (r : Reading) : Type 0 where
  place : r.place ≡ 0
  bits : r.bits < 4294967296
  contents : ContentsFit r.contents
  fitting : StateFits r.state
  sound : sound r.state ≡ true

module _ (st : State) (h : sound st ≡ true) (f : StateFits st) where
  from-fits : StateFits (from st)
  from-fits = go st.instep
    where
      go : (b : Bool) → StateFits (pick b st fresh)
      go true = f
      go false = fresh-fits

  -- a payload uses at most 8,192 bits
  few_bits : (s : List ℕ) (c : Contents) (n : ℕ) → payload-reader (from st) s 0 (8 * length s) ≡ got c n → n < 4294967296
  few_bits s c n e = omega (arith, (payload-near (from st)).law s 0 (8 * length s) n c e)

  well : (s : List ℕ) → (read_bytes st s).number ≡ 0 → Well (read_bytes st s)
  unfolding read_bytes taken
  well s = by_answer (whole (payload-reader (from st)) s) refl
    where
      kind : (c : Contents) (n : ℕ) → whole (payload-reader (from st)) s ≡ got c n → (b : Bool)
          → (pick b (acceptance st c n) (refusal 35 n (lost st))).number ≡ 0
          → Well (pick b (acceptance st c n) (refusal 35 n (lost st)))
      kind c n e true z =
          let w = (whole-got (payload-reader (from st)) s n c e).0 in
          let g = (payload-fits (from st)).law s 0 (8 * length s) n c w in
          record {
            place = refl;
            bits = few_bits s c n w;
            contents = g;
            fitting = carried-fits (from st) c from-fits g;
            sound = carried-sound (from st) s n c (origin-sound stereo steady st h) e;
          }
      kind c n e false z = absurd (omega arith)

      by_answer : (x : Answer Contents) → whole (payload-reader (from st)) s ≡ x → (reading_of st x).number ≡ 0 → Well (reading_of st x)
      by_answer (got c n) e = kind c n e (st.instep || restart c)
      by_answer (refused n p) e = λ z. absurd (whole-not_0 (from st) s n p e z)

-- bytes after a call, as the bytes of a new state or answer before what is left of the old
after_front : (s xs : List ℕ) → over s 0 xs ≡ xs ++ drop (length xs) s
after_front s xs = over-front s xs (length xs) refl

-- they are no fewer
no_fewer : (s xs : List ℕ) (n : ℕ) → n ≤ length s → n ≤ length (over s 0 xs)
no_fewer s xs n h = rw (after_front s xs, length-append xs (drop (length xs) s), length-drop (length xs) s) (omega arith)

-- flags are 0 or 1
flag-byte : (b : Bool) → is_flag (flag_byte b) ≡ true
flag-byte true = refl
flag-byte false = refl

written_flags : (st : State) (rest : List ℕ) → flagged (state_bytes st ++ rest) ≡ true
unfolding state_bytes state_head
written_flags st rest = rw (flag-byte st.setup.iid, flag-byte st.setup.icc, flag-byte st.setup.ext, flag-byte st.instep)

lost-flags : (s : List ℕ) → 146 ≤ length s → flagged s ≡ true → flagged (lost_bytes s) ≡ true
lost-flags s h e =
    let first = is_flag (get_or s 0 0) && is_flag (get_or s 1 0) && is_flag (get_or s 2 0) in
    rw (
      get_or-set_other s 5 0 0 0 (λ e. absurd (omega arith)),
      get_or-set_other s 5 1 0 0 (λ e. absurd (omega arith)),
      get_or-set_other s 5 2 0 0 (λ e. absurd (omega arith)),
      get_or-set_same s 5 0 0 (omega arith),
    )
    (and_of first true (and_both first (is_flag (get_or s 5 0)) e).0 refl)

-- the state that the kept bytes stand for, after they are lost or written
lost_soundly : (s : List ℕ) → sound_bytes s ≡ true → sound_bytes (lost_bytes s) ≡ true
lost_soundly s e =
    let p = sound-parts s e in
    sound_of (lost_bytes s) (record {
      long = rw (length-set s 5 0) p.long;
      flags = lost-flags s p.long p.flags;
      state = rw (lost-bytes s (omega (arith, p.long))) (lost-sound (state_at s) ∙ p.state);
    })

written_back : (s : List ℕ) (st : State) → StateFits st → state_at (over s 0 (state_bytes st)) ≡ st
written_back s st f = ap state_at (after_front s (state_bytes st)) ∙ state-back st (drop (length (state_bytes st)) s) f

written_soundly : (s : List ℕ) (st : State) → 146 ≤ length s → StateFits st → sound st ≡ true
    → sound_bytes (over s 0 (state_bytes st)) ≡ true
written_soundly s st h f e =
    sound_of (over s 0 (state_bytes st)) (record {
      long = no_fewer s (state_bytes st) 146 h;
      flags = ap flagged (after_front s (state_bytes st)) ∙ written_flags st (drop (length (state_bytes st)) s);
      state = rw (written_back s st f) e;
    })

-- what a handset keeps is all there
record Keeps (k : Kept) : Type 0 where
  sound : sound_bytes k.state ≡ true
  room : 582 ≤ length k.answer

-- one call
abbrev byte_turn : Kept → Event → Turn State Contents
byte_turn k e = record { outcome = byte_outcome k e; state = state_at (kept_after k e).state }

module _ (k : Kept) (w : Keeps k) where
  abbrev st : State
  st = state_at k.state

  reported-keeps : Keeps (kept_after k reporting)
  reported-keeps = rw w.sound (record { sound = lost_soundly k.state w.sound; room = w.room })

  reported-turn : byte_turn k reporting ≡ turn stereo st reporting
  reported-turn =
      let p = sound-parts k.state w.sound in
      rw (w.sound, p.state)
      (ap (λ (x : State). record { outcome = reported; state = x }) (lost-bytes k.state (omega (arith, p.long))))

  module _ (p : Range) where
    abbrev event : Event
    event = payload p

    abbrev r : Reading
    r = read_bytes st (bytes_in p)

    -- a range outside its buffer is judged by the call
    outside : is_there p ≡ false → (byte_turn k event ≡ turn stereo st event) × Keeps (kept_after k event)
    unfolding stereo_returned stereo_state_after stereo_answer_after
    outside e = (rw e, rw e w)

    module _ (e : is_there p ≡ true) where
      -- past the tests, what comes back and what is kept are the reading's
      called : Passed (tests_of (call_of k p))
      called = (e, (le-leb 582 (length k.answer) w.room, (w.sound, tt)))

      comes_back : stereo_returned (call_of k p) ≡ returned r.number r.place
      unfolding stereo_returned
      comes_back = rw (called.0, called.1.0, called.1.1.0)

      turn_is : turn stereo st event ≡ turn_of r
      unfolding read_from
      turn_is = reads st p ∙ rw (e, (sound-parts k.state w.sound).state)

      accepted : r.number ≡ 0 → (byte_turn k event ≡ turn_of r) × Keeps (kept_after k event)
      unfolding stereo_state_after stereo_answer_after
      accepted z =
          let y = eq-eqb r.number 0 z in
          let q = sound-parts k.state w.sound in
          let good = well st q.state (state-at-fits k.state w.sound) (bytes_in p) z in
          let nothing : stereo_returned (call_of k p) ≡ 0 = comes_back ∙ omega (arith, z, good.place) in
          let bytes = answer_bytes r.bits r.contents in
          let left = drop (length bytes) k.answer in
          let front = after_front k.answer bytes in (
            rw (
              nothing,
              called.0,
              called.1.0,
              called.1.1.0,
              y,
              written_back k.state r.state good.fitting,
              front,
              contents-back r.bits r.contents left good.contents,
              bits_back r.bits r.contents left good.bits,
            ),
            rw (called.0, called.1.0, called.1.1.0, y) (record {
              sound = written_soundly k.state r.state q.long good.fitting good.sound;
              room = no_fewer k.answer bytes 582 w.room;
            }),
          )

      not-accepted : eqb r.number 0 ≡ false → (byte_turn k event ≡ turn_of r) × Keeps (kept_after k event)
      unfolding stereo_state_after stereo_answer_after
      not-accepted z =
          let q = sound-parts k.state w.sound in
          let not-0 : r.number ≡ 0 → ⊥ = λ y. true-false _ (eq-eqb r.number 0 y) z in
          let left : r.state ≡ lost st = ap (λ (x : Reading). x.state) (bytes-touching st (bytes_in p) not-0).0 in
          let small = answered-small r.number (bytes-answered st (bytes_in p)) in
          let told = ne_eqb (returned r.number r.place) 0 (λ y. not-0 (omega arith)) in (
            rw (
              comes_back,
              told,
              number-kept r.number r.place small,
              place_kept r.number r.place small,
              called.0,
              called.1.0,
              called.1.1.0,
              z,
              lost-bytes k.state (omega (arith, q.long)),
              left,
            ),
            rw (called.0, called.1.0, called.1.1.0, z) (record { sound = lost_soundly k.state w.sound; room = w.room }),
          )

      inside : (byte_turn k event ≡ turn stereo st event) × Keeps (kept_after k event)
      inside = go (eqb r.number 0) refl
        where
          go : (z : Bool) → eqb r.number 0 ≡ z → (byte_turn k event ≡ turn stereo st event) × Keeps (kept_after k event)
          go true z = let v = accepted (eqb-true r.number 0 z) in (v.0 ∙ sym turn_is, v.1)
          go false z = let v = not-accepted z in (v.0 ∙ sym turn_is, v.1)

  one-call : (e : Event) → (byte_turn k e ≡ turn stereo st e) × Keeps (kept_after k e)
  one-call reporting = (reported-turn, reported-keeps)
  one-call (payload p) = go (is_there p) refl
    where
      go : (t : Bool) → is_there p ≡ t → (byte_turn k (payload p) ≡ turn stereo st (payload p)) × Keeps (kept_after k (payload p))
      go true e = inside p e
      go false e = outside p e

-- over bytes: where they stand for a sound state and an answer has room, a run of calls is a run of the machine from that state
pub over-bytes : (k : Kept) (es : List Event) → sound_bytes k.state ≡ true → 582 ≤ length k.answer
    → byte_calls k es ≡ run stereo (state_at k.state) es
over-bytes k es h g = go k (record { sound = h; room = g }) es
  where
    go : (k : Kept) → Keeps k → (es : List Event) → byte_calls k es ≡ run stereo (state_at k.state) es
    go k w [] = refl
    go k w (e ∷ es) =
        let v = one-call k w e in
        ap (λ (ts : List (Turn State Contents)). byte_turn k e ∷ ts) (go (kept_after k e) v.1 es)
        ∙ sym (next (state_at k.state) e (byte_turn k e) (sym v.0) es)

-- after oarcradler_fresh_state it is a run from the fresh state
pub fresh-bytes : (s : List ℕ) → 146 ≤ length s → (state_at (fresh_after s) ≡ fresh) × (sound_bytes (fresh_after s) ≡ true)
fresh-bytes s h = rw (le-leb 146 (length s) h) (written_back s fresh fresh-fits, written_soundly s fresh h fresh-fits fresh-sound)

pub from-fresh-bytes : (s answer : List ℕ) (es : List Event) → 146 ≤ length s → 582 ≤ length answer
    → byte_calls (record { state = fresh_after s; answer = answer }) es ≡ run stereo fresh es
from-fresh-bytes s answer es h g =
    let f = fresh-bytes s h in
    over-bytes (record { state = fresh_after s; answer = answer }) es f.1 g ∙ ap (λ (st : State). run stereo st es) f.0

-- the odd payloads of an image, whatever the even ones are: each is one turn from the state that the ones before it left
module _ (s : List ℕ) where
  odd-turn : (k : ℕ) (st : State) → state_before s k ≡ st
      → turn_of (stereo_in (state_before s k) (bytes_of s k)) ≡ turn stereo st (odd_payload s k)
  unfolding stereo_in
  odd-turn k st e = rw e (sym (reads st (range_in (bytes_of s k) 0 (length (bytes_of s k)))))

  odd-next : (k : ℕ) (es : List Event) (b : Bool) → state_before s k ≡ after stereo fresh es
      → pick b (state_before s k) (stereo_in (state_before s k) (bytes_of s k)).state
      ≡ after stereo fresh (es ++ pick b [] (odd_payload s k ∷ []))
  odd-next k es true e = e ∙ ap (after stereo fresh) (sym (append-nil es))
  odd-next k es false e =
      ap (λ (t : Turn State Contents). t.state) (odd-turn k (after stereo fresh es) e)
      ∙ sym (after-append stereo fresh es (odd_payload s k ∷ []))

  odd-state : (k : ℕ) → state_before s k ≡ after stereo fresh (odd_payloads s k)
  unfolding state_before state_from
  odd-state zero = refl
  odd-state (suc k) = odd-next k (odd_payloads s k) (is_even k) (odd-state k)

  odd-more : (k : ℕ) (es : List Event) (b : Bool) → state_before s k ≡ after stereo fresh es
      → run stereo fresh es ++ pick b [] (turn_of (stereo_in (state_before s k) (bytes_of s k)) ∷ [])
      ≡ run stereo fresh (es ++ pick b [] (odd_payload s k ∷ []))
  odd-more k es true e = append-nil (run stereo fresh es) ∙ ap (run stereo fresh) (sym (append-nil es))
  odd-more k es false e =
      ap (λ (t : Turn State Contents). run stereo fresh es ++ t ∷ []) (odd-turn k (after stereo fresh es) e)
      ∙ sym (run-append stereo fresh es (odd_payload s k ∷ []))

  pub odd-run : (k : ℕ) → odd_turns s k ≡ run stereo fresh (odd_payloads s k)
  odd-run zero = refl
  odd-run (suc k) =
      ap (λ (ts : List (Turn State Contents)). ts ++ pick (is_even k) [] (turn_of (stereo_in (state_before s k) (bytes_of s k)) ∷ []))
      (odd-run k)
      ∙ odd-more k (odd_payloads s k) (is_even k) (odd-state k)
