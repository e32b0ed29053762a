-- What the functions give, called one after another: a wrapped stream is read and unwrapped to what it was, an unwrapped one is a payload
-- of the channel's reader, and no byte outside a frame counts.
-- Assumes nothing.
use Prim.Native.Nat.{ℕ, ◌+◌, ◌*◌, ◌-◌, ◌<◌, ◌≤◌}
use mathlib.Core.Path.{◌≡◌, refl, sym, ◌∙◌, ap}
use mathlib.Core.Bool.{Bool, true, false}
use mathlib.Core.List.{List, [], ◌∷◌}
use native.Mathlib.Omega.{arith}
use lib.Dec.{leb}
use lib.ListN.{length, take, drop}
use lib.Seq.{take-append_seam, take_all}
use borrow.Author.Tests.{le-leb, leb-true}
use Rattle.bits.specs.Reader.{Answer, got, refused, pick}
use Rattle.bits.specs.Bytes.{over}
use Rattle.bits.specs.Packed.{bytes_for}
use Rattle.bits.specs.Payload.{Range, range, range_in, is_there, bytes_in, whole}
use Rattle.bits.specs.Calls.{◌or◌, first_refusal}
use Rattle.bits.specs.Sampling.{known_index}
use Rattle.bits.proofs.Lawful.{never}
use Rattle.bits.proofs.OverLaws.{over-front, over-length}
use Rattle.bits.proofs.SamplingLaws.{known_small}
use Rattle.channel.specs.Stream.{Stream, stream}
use Rattle.channel.specs.Promise.{channel}
use Rattle.adts.specs.Header.{Header}
use Rattle.adts.specs.Frame.{frame_header, stream_in}
use Rattle.adts.specs.Cut.{cut_out}
use Rattle.adts.specs.Wrapping.{frame_length, wrapping}
use Rattle.adts.proofs.BlockLaws.{bits-within}
use Rattle.adts.specs.Promise.{header_at, stream_at, fitted, unwrapped, wrappable, wrapped_bytes}
use Rattle.adts_laws.proofs.CutBits.{cut-length, cut-same}
use Rattle.adts_laws.proofs.Outside.{index-known, front_same, same-header, same_block}
use Rattle.adts_laws.proofs.RoundTrips.{SameNumbers, same_trans, short, unwrapped-reads, wrapped-reads, wrapped-cut}
use Rattle.adts_laws.proofs.WrappedBits.{frame-length, wrapped-header}

-- what fits was there before it was fitted
pub fitted-held : (size : ℕ → ℕ) (room : ℕ) (y : Answer Stream) (x : Stream) (bits : ℕ) → fitted size room y ≡ got x bits
    → (y ≡ got x bits) × (size bits ≤ room)
fitted-held size room (refused n p) x bits e = never e
fitted-held size room (got z n) x bits e = go (leb (size n) room) refl e
  where
    go : (a : Bool) → leb (size n) room ≡ a → pick a (got z n) (refused 2 0) ≡ got x bits → (got z n ≡ got x bits) × (size bits ≤ room)
    go true p e = let q : n ≡ bits = cc in (e, rw (← q) (leb-true _ _ p))
    go false p e = never e

-- a stream that the channel's reader accepts, whose outputs always fit
channel-held : (p : Range) (index : ℕ) (x : Stream) (bits : ℕ) → channel p index true ≡ got x bits
    → (known_index index ≡ true) × (whole (stream index) (bytes_in p) ≡ got x bits)
unfolding channel
channel-held q index x bits e = go (is_there q) (known_index index) refl e
  where
    go : (a b : Bool) → known_index index ≡ b
        → first_refusal (a or 1 ∷ b or 3 ∷ []) (λ n. refused n 0) (whole (stream index) (bytes_in q)) ≡ got x bits
        → (known_index index ≡ true) × (whole (stream index) (bytes_in q) ≡ got x bits)
    go true true p e = (p, e)
    go false b p e = never e
    go true false p e = never e

-- a stream that can be wrapped is one that the channel's reader accepts, and its frame fits
pub wrappable-held : (p : Range) (index room : ℕ) (x : Stream) (bits : ℕ) → wrappable p index room ≡ got x bits
    → (known_index index ≡ true) × (whole (stream index) (bytes_in p) ≡ got x bits) × (frame_length bits ≤ room)
unfolding wrappable
wrappable-held p index room x bits e =
    let f = fitted-held frame_length room (channel p index true) x bits e in
    let c = channel-held p index x bits f.0 in
    (c.0, c.1, f.1)

-- a frame at the front of a buffer, with other bytes after it
front : (f old : List ℕ) → take (length f) (over old 0 f) ≡ f
front f old = ap (take (length f)) (over-front old f (length f) refl) ∙ take-append_seam f (drop (length f) old)

-- what is cut out of a frame goes by its bytes alone
cut_inside : (b c : List ℕ) (size n : ℕ) → take size b ≡ take size c → 63 + n ≤ 8 * size → cut_out b 63 n ≡ cut_out c 63 n
cut_inside b c size n e h = cut-same b c 63 63 n (λ i l. front_same b c size e (63 + i) (omega arith) (omega arith))

-- wrap, then read and unwrap: the stream's numbers, index and bit count, and exactly the bits that it used
module _ (buf : List ℕ) (start end index : ℕ) (out : List ℕ) (x : Stream) (bits : ℕ)
    (e : wrappable (range_in buf start end) index (length out) ≡ got x bits) where
  abbrev file : List ℕ
  file = wrapped_bytes index (range buf start end) (got x bits) out

  abbrev made : Header
  made = record { index = index; length = frame_length bits }

  held : (known_index index ≡ true) × (whole (stream index) (range buf start end) ≡ got x bits) × (frame_length bits ≤ length out)
  held = wrappable-held (range_in buf start end) index (length out) x bits e

  small : index < 16
  small = omega (arith, known_small index held.0)

  frame-in : take (frame_length bits) (wrapping index (range buf start end) bits) ≡ take (frame_length bits) file
  frame-in =
      let f = wrapping index (range buf start end) bits in
      let l = frame-length index (range buf start end) bits in
      take_all (frame_length bits) f (omega arith) ∙ sym (ap (λ (k : ℕ). take k (over out 0 f)) (sym l) ∙ front f out)

  own-header : frame_header (wrapping index (range buf start end) bits) ≡ got made 56
  own-header = wrapped-header index (range buf start end) bits small (short index (range buf start end) bits x held.1) held.0

  pub wrapped-header-read : header_at file 0 true ≡ got made 56
  unfolding header_at
  wrapped-header-read =
      rw (le-leb 0 (length file) (omega arith))
      (same-header (wrapping index (range buf start end) bits) file made 56 own-header frame-in)

  pub wrapped-stream-read : (y : Stream) × (stream_at file 0 (header_at file 0 true) ≡ got y bits) × SameNumbers y x
  wrapped-stream-read =
      let f = wrapping index (range buf start end) bits in
      let w = wrapped-reads index (range buf start end) bits x held.1 small in
      let block = same_block f file made 56 own-header frame-in in
      (w.0, ap (stream_at file 0) wrapped-header-read ∙ ap stream_in block ∙ w.1, w.2)

  pub wrapped-unwraps : cut_out file 63 bits ≡ cut_out (range buf start end) 0 bits
  wrapped-unwraps =
      sym (cut_inside (wrapping index (range buf start end) bits) file (frame_length bits) bits frame-in (omega arith))
      ∙ wrapped-cut index (range buf start end) bits x held.1 small

-- a header that is accepted at a byte of a file is that of the frame there
pub header-there : (file : List ℕ) (start : ℕ) (room : Bool) (h : Header) (next : ℕ) → header_at file start room ≡ got h next
    → (start ≤ length file) × (room ≡ true) × (frame_header (drop start file) ≡ got h next)
unfolding header_at
header-there file start room h next e = go (leb start (length file)) refl room refl e
  where
    go : (a : Bool) → leb start (length file) ≡ a → (b : Bool) → room ≡ b
        → pick a (pick b (frame_header (drop start file)) (refused 2 0)) (refused 1 0) ≡ got h next
        → (start ≤ length file) × (room ≡ true) × (frame_header (drop start file) ≡ got h next)
    go true p true q e = (leb-true _ _ p, q, e)
    go true p false q e = never e
    go false p b q e = never e

-- no byte outside a frame counts: files that hold the same frame give the same answers, and the same bits are cut out of them
module _ (file other : List ℕ) (start start' : ℕ) (room : Bool) (h : Header) (next : ℕ) (e : header_at file start room ≡ got h next)
    (l : start' ≤ length other) (q : take h.length (drop start file) ≡ take h.length (drop start' other)) where
  pub outside-header : header_at other start' room ≡ got h 56
  unfolding header_at
  outside-header =
      let w = header-there file start room h next e in
      rw (le-leb start' (length other) l, w.1) (same-header (drop start file) (drop start' other) h next w.2 q)

  pub outside-stream : stream_at other start' (header_at other start' room) ≡ stream_at file start (header_at file start room)
  outside-stream =
      let w = header-there file start room h next e in
      rw (e, outside-header) (ap stream_in (same_block (drop start file) (drop start' other) h next w.2 q))

  pub outside-cut : (x : Stream) (bits : ℕ) → stream_at file start (header_at file start room) ≡ got x bits
      → cut_out (drop start' other) 63 bits ≡ cut_out (drop start file) 63 bits
  outside-cut x bits f =
      let inside = bits-within h.index (drop start file) (8 * h.length) x bits (ap (stream_at file start) (sym e) ∙ f) in
      sym (cut_inside (drop start file) (drop start' other) h.length bits q inside)

-- what unwrapping leaves at the front of a buffer is a payload that the channel's reader accepts, with the numbers of the frame
module _ (file : List ℕ) (start : ℕ) (room : Bool) (h : Header) (next : ℕ) (e : header_at file start room ≡ got h next) (out : List ℕ)
    (x : Stream) (bits : ℕ) (f : stream_at file start (header_at file start room) ≡ got x bits) (fits : bytes_for bits ≤ length out) where
  abbrev payload : List ℕ
  payload = unwrapped (drop start file) (got x bits) out

  there : range payload 0 (bytes_for bits) ≡ cut_out (drop start file) 63 bits
  there =
      let cut = cut_out (drop start file) 63 bits in
      let n : bytes_for bits - 0 ≡ length cut = omega (arith, cut-length (drop start file) 63 bits) in
      ap (λ (k : ℕ). take k payload) n ∙ front cut out

  pub unwrapped-accepted : (y : Stream) × (channel (range_in payload 0 (bytes_for bits)) h.index true ≡ got y bits) × SameNumbers y x
  unfolding channel
  unwrapped-accepted =
      let cut = cut_out (drop start file) 63 bits in
      let long = cut-length (drop start file) 63 bits in
      let size = over-length out 0 cut (omega arith) in
      let known = index-known (drop start file) h next (header-there file start room h next e).2 in
      let w = unwrapped-reads h.index (drop start file) (8 * h.length) bits x (ap (stream_at file start) (sym e) ∙ f) in (
        w.0,
        rw (le-leb 0 (bytes_for bits) (omega arith), le-leb (bytes_for bits) (length payload) (omega arith), known, there) w.1,
        w.2,
      )

  -- wrapped again, it reads the same
  pub rewrapped-reads : (again : List ℕ) → frame_length bits ≤ length again
      → (y z : Stream)
      × (wrappable (range_in payload 0 (bytes_for bits)) h.index (length again) ≡ got y bits)
      × (stream_at (wrapped_bytes h.index (range payload 0 (bytes_for bits)) (got y bits) again) 0
      (header_at (wrapped_bytes h.index (range payload 0 (bytes_for bits)) (got y bits) again) 0 true) ≡ got z bits)
      × SameNumbers z x
  unfolding wrappable
  rewrapped-reads again l =
      let w = unwrapped-accepted in
      let e' : wrappable (range_in payload 0 (bytes_for bits)) h.index (length again) ≡ got w.0 bits =
      ap (fitted frame_length (length again)) w.1 ∙ rw (le-leb (frame_length bits) (length again) l) in
      let r = wrapped-stream-read payload 0 (bytes_for bits) h.index again w.0 bits e' in
      (w.0, r.0, e', r.1, same_trans r.2 w.2)
