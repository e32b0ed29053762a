-- Demand 2, of ADTS frames, over what the functions answer: wrap then read, wrap then unwrap, unwrap then the channel's reader, and wrap
-- again.
-- Assumes nothing.
use Prim.Native.Nat.{ℕ, ◌≤◌}
use mathlib.Core.Path.{◌≡◌, refl, sym, ◌∙◌, ap}
use mathlib.Core.List.{List}
use mathlib.Core.Bool.{Bool, true}
use lib.ListN.{length, drop}
use borrow.Author.Tests.{le-leb}
use Rattle.bits.specs.Reader.{Answer, got, refused}
use Rattle.bits.specs.Bytes.{over}
use Rattle.bits.specs.Packed.{bytes_for}
use Rattle.bits.specs.Payload.{range, range_in}
use Rattle.bits.proofs.Lawful.{never}
use Rattle.channel.specs.Stream.{Stream}
use Rattle.channel.specs.Promise.{Outputs, have_room, channel, accepted, reading_of, outputs_after, ReadChannelPromise}
use Rattle.channel.specs.declared.Reading.{Reading}
use Rattle.channel.specs.declared.stream.Head.{Head}
use Rattle.adts.specs.Header.{Header}
use Rattle.adts.specs.Cut.{cut_out}
use Rattle.adts.specs.Wrapping.{frame_length}
use Rattle.adts.specs.Promise.{header_at, stream_at, framed, wrappable, wrapped_of, wrapped_bytes}
use Rattle.adts.specs.Promise.{ReadFramePromise, UnwrapPromise, WrapPromise}
use Rattle.adts.specs.declared.Framed.{Framed}
use Rattle.adts.specs.declared.Wrapped.{Wrapped}
use Rattle.adts_laws.proofs.RoundTrips.{SameNumbers}
use Rattle.adts_laws.proofs.FrameCalls.{fitted-held, header-there, wrapped-header-read, wrapped-stream-read, wrapped-unwraps}
use Rattle.adts_laws.proofs.FrameCalls.{unwrapped-accepted}
use Rattle.promises.proofs.FrameNumbers.{frame-refusals, wrap-refusals, taken}
use Rattle.promises.specs.Refusals.{is_refusal}

-- the answer to a frame that is accepted
abbrev framed_with : ℕ → ℕ → Reading → Framed
framed_with index size r = record { index = index; length = size; reading = r }

-- a wrapping whose number is 0 has a stream
wrapped_taken : (x : Answer Stream) → ((n p : ℕ) → x ≡ refused n p → is_refusal n ≡ true) → (wrapped_of x).number ≡ 0
    → (s : Stream) × (bits : ℕ) × (x ≡ got s bits)
wrapped_taken (got s bits) f e = (s, bits, refl)
wrapped_taken (refused n p) f e = taken (refused n p) f e

-- streams with the same numbers leave the same outputs
same-outputs : {y x : Stream} (bits : ℕ) → SameNumbers y x → (o : Outputs) → outputs_after (got y bits) o ≡ outputs_after (got x bits) o
same-outputs bits s o = rw (s.lines, s.factors, s.books)

-- wrap, then read and unwrap
module _ (buf : List ℕ) (start end index : ℕ) (out : List ℕ) (w : Wrapped) (out' : List ℕ)
    (p : WrapPromise (record { payload = range_in buf start end; index = index; out = out }) w out') (ok : w.number ≡ 0) where
  -- the stream that was wrapped
  held : (x : Stream) × (bits : ℕ) × (wrappable (range_in buf start end) index (length out) ≡ got x bits)
  held =
      wrapped_taken (wrappable (range_in buf start end) index (length out)) (wrap-refusals (range_in buf start end) index (length out))
      (sym (ap (λ (v : Wrapped). v.number) p.0) ∙ ok)

  abbrev x : Stream
  x = held.0

  abbrev bits : ℕ
  bits = held.1

  there : out' ≡ wrapped_bytes index (range buf start end) (got x bits) out
  there = p.1 ∙ ap (λ (a : Answer Stream). wrapped_bytes index (range buf start end) a out) held.2

  -- the frame's length, and an answer with the stream's head
  same_answer : {h : Head} {r : Reading} → h ≡ x.head → accepted x.head bits ≡ r
      → framed_with index (frame_length bits) (accepted h bits) ≡ framed_with index w.length r
  same_answer {r = r} e f =
      let size = ap (λ (v : Wrapped). v.length) (p.0 ∙ ap wrapped_of held.2) in
      ap (framed_with index (frame_length bits)) (ap (λ (h : Head). accepted h bits) e ∙ f)
      ∙ ap (λ (n : ℕ). framed_with index n r) (sym size)

  own : channel (range_in buf start end) index true ≡ got x bits
  unfolding wrappable
  own = (fitted-held frame_length (length out) (channel (range_in buf start end) index true) x bits held.2).0

  -- the stream's numbers, index and bit count, as the channel's reader gives them, and the frame's length
  module _ (o : Outputs) (fits : have_room o ≡ true) (r : Reading) (o' : Outputs)
      (c : ReadChannelPromise (record { payload = range_in buf start end; index = index; outputs = o }) r o') where
    channel-gives : (r ≡ accepted x.head bits) × (o' ≡ outputs_after (got x bits) o)
    channel-gives = let e = ap (channel (range_in buf start end) index) fits ∙ own in rw e at c

    pub wrap-read : (q : Framed) (o'' : Outputs) → ReadFramePromise (record { file = out'; start = 0; outputs = o }) q o''
        → (q ≡ record { index = index; length = w.length; reading = r }) × (o'' ≡ o')
    wrap-read q o'' f =
        let h = wrapped-header-read buf start end index out x bits held.2 in
        let s = wrapped-stream-read buf start end index out x bits held.2 in
        let g = rw (there, fits, s.1, h) at f in
        let k = channel-gives in
        (g.0 ∙ same_answer s.2.head (sym k.0), g.1 ∙ same-outputs bits s.2 o ∙ sym k.1)

    -- exactly the bits that it used
    pub wrap-unwrap : (back : List ℕ) → bytes_for r.bits ≤ length back → (u : Framed) (back' : List ℕ) → UnwrapPromise out' 0 back u back'
        → (u ≡ record { index = index; length = w.length; reading = r })
        × (back' ≡ over back 0 (cut_out (range buf start end) 0 r.bits))
    wrap-unwrap back room u back' f =
        let h = wrapped-header-read buf start end index out x bits held.2 in
        let s = wrapped-stream-read buf start end index out x bits held.2 in
        let k = channel-gives in
        let n = ap (λ (v : Reading). v.bits) k.0 in
        let g = rw (there, s.1, h, le-leb (bytes_for bits) (length back) (rw n at room)) at f in (
          g.0 ∙ same_answer s.2.head (sym k.0),
          g.1 ∙ rw (wrapped-unwraps buf start end index out x bits held.2, n),
        )

-- an answer's reading
framed-reading : (h : Answer Header) (r : Reading) → (framed h r).reading ≡ r
framed-reading (got h next) r = refl
framed-reading (refused n p) r = refl

-- a stream is there only after a header
header_of : (file : List ℕ) (start : ℕ) (h : Answer Header) (x : Stream) (bits : ℕ) → stream_at file start h ≡ got x bits
    → (g : Header) × (next : ℕ) × (h ≡ got g next)
header_of file start (got g next) x bits e = (g, next, refl)
header_of file start (refused n p) x bits e = never e

-- read, then unwrap: the two agree, and what unwrapping gives is accepted by the channel's reader with the same numbers
module _ (file : List ℕ) (start : ℕ) (o : Outputs) (q : Framed) (o' : Outputs)
    (f : ReadFramePromise (record { file = file; start = start; outputs = o }) q o') (ok : q.reading.number ≡ 0) where
  abbrev fit : Bool
  fit = have_room o

  stream-there : (x : Stream) × (bits : ℕ) × (stream_at file start (header_at file start fit) ≡ got x bits)
  stream-there =
      taken (stream_at file start (header_at file start fit)) (frame-refusals file start fit)
      (sym (ap (λ (v : Reading). v.number) (ap (λ (v : Framed). v.reading) f.0 ∙ framed-reading (header_at file start fit) _)) ∙ ok)

  header_is : (g : Header) × (next : ℕ) × (header_at file start fit ≡ got g next)
  header_is = header_of file start (header_at file start fit) stream-there.0 stream-there.1 stream-there.2

  fits : fit ≡ true
  fits = (header-there file start fit header_is.0 header_is.1 header_is.2).1

  answers : (q ≡ framed_with header_is.0.index header_is.0.length (accepted stream-there.0.head stream-there.1))
      × (o' ≡ outputs_after (got stream-there.0 stream-there.1) o)
  answers = rw (stream-there.2, header_is.2) at f

  header-true : header_at file start true ≡ got header_is.0 header_is.1
  header-true = rw (← fits) header_is.2

  stream-true : stream_at file start (header_at file start true) ≡ got stream-there.0 stream-there.1
  stream-true = rw (← fits) stream-there.2

  module _ (out : List ℕ) (room : bytes_for q.reading.bits ≤ length out) (u : Framed) (out' : List ℕ)
      (p : UnwrapPromise file start out u out') where
    enough : bytes_for stream-there.1 ≤ length out
    enough = rw answers.0 at room

    -- what is unwrapped, as a payload of the channel's reader
    abbrev cut : List ℕ
    cut = over out 0 (cut_out (drop start file) 63 stream-there.1)

    as-payload : (y : Stream)
        × (channel (range_in cut 0 (bytes_for stream-there.1)) header_is.0.index true ≡ got y stream-there.1)
        × SameNumbers y stream-there.0
    as-payload =
        unwrapped-accepted file start true header_is.0 header_is.1 header-true out stream-there.0 stream-there.1 stream-true
        enough

    unwraps : (u ≡ q) × (out' ≡ over out 0 (cut_out (drop start file) 63 stream-there.1))
    unwraps =
        let g = rw (stream-true, header-true, le-leb (bytes_for stream-there.1) (length out) enough) at p in
        (g.0 ∙ sym answers.0, g.1)

    pub unwrap-agrees : u ≡ q
    unwrap-agrees = unwraps.0

    pub unwrap-read : (r : Reading) (o'' : Outputs)
        → ReadChannelPromise (record { payload = range_in out' 0 (bytes_for q.reading.bits); index = q.index; outputs = o }) r o''
        → (r ≡ q.reading) × (o'' ≡ o')
    unwrap-read r o'' c =
        let a = as-payload in
        let e = ap (channel (range_in cut 0 (bytes_for stream-there.1)) header_is.0.index) fits ∙ a.1 in
        let g = rw (answers.0, unwraps.1, e) at c in (
          g.0 ∙ ap (λ (h : Head). accepted h stream-there.1) a.2.head ∙ sym (ap (λ (v : Framed). v.reading) answers.0),
          g.1 ∙ same-outputs stream-there.1 a.2 o ∙ sym answers.1,
        )

    -- wrapped again where there is room, it reads the same
    module _ (again : List ℕ) (w : Wrapped) (again' : List ℕ)
        (c : WrapPromise (record { payload = range_in out' 0 (bytes_for q.reading.bits); index = q.index; out = again }) w again') where
      pub again-wraps : frame_length q.reading.bits ≤ length again → w.number ≡ 0
      unfolding wrappable
      again-wraps l =
          let a = as-payload in
          let fits-again : frame_length stream-there.1 ≤ length again = rw answers.0 at l in
          let g = rw (answers.0, unwraps.1, a.1, le-leb (frame_length stream-there.1) (length again) fits-again) at c in
          ap (λ (v : Wrapped). v.number) g.0

      pub again-reads : w.number ≡ 0 → (q' : Framed) (o'' : Outputs)
          → ReadFramePromise (record { file = again'; start = 0; outputs = o }) q' o''
          → (q' ≡ record { index = q.index; length = w.length; reading = q.reading }) × (o'' ≡ o')
      again-reads ok' q' o'' d =
          let n = bytes_for q.reading.bits in
          let x = channel (range_in out' 0 n) q.index (have_room o) in
          let own = unwrap-read (reading_of x) (outputs_after x o) (refl, refl) in
          let read = wrap-read out' 0 n q.index again w again' c ok' o fits (reading_of x) (outputs_after x o) in
          let g = read (refl, refl) q' o'' d in
          (g.0 ∙ ap (λ (r : Reading). framed_with q.index w.length r) own.0, g.1 ∙ own.1)
