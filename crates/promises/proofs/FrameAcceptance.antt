-- Demand 2: a frame is accepted exactly where the rules allow it, with exactly its numbers, index, length and bit count.
-- Assumes nothing.
use Prim.Native.Nat.{ℕ, ◌+◌, ◌*◌, ◌-◌, ◌≤◌}
use mathlib.Core.Path.{◌≡◌, refl, sym, ◌∙◌, ap}
use mathlib.Core.List.{List}
use mathlib.Core.Bool.{Bool, true, false}
use native.Mathlib.Omega.{arith}
use lib.Dec.{eqb, leb}
use lib.ListN.{length, drop}
use borrow.Author.Tests.{le-leb, leb-true, eqb-true}
use Rattle.bits.specs.Reader.{Answer, got, refused, pick}
use Rattle.bits.specs.Field.{field}
use Rattle.bits.specs.Payload.{ended}
use Rattle.bits.proofs.FieldLaws.{field-taken}
use Rattle.bits.proofs.Lawful.{never, same-value, split, tested-got}
use Rattle.channel.specs.Stream.{Stream}
use Rattle.adts.specs.Header.{Header}
use Rattle.adts.specs.Block.{Block, element, single_channel, raw_block}
use Rattle.adts.specs.Frame.{whole_header, fitting, frame_header, stream_in}
use Rattle.channel.specs.Promise.{Outputs, have_room}
use Rattle.adts.specs.Promise.{header_at, stream_at}
use Rattle.adts.proofs.BlockLaws.{element-held, stream-held}
use Rattle.adts_laws.proofs.FrameCalls.{header-there}
use Rattle.adts_laws.proofs.Outside.{accepted}
use Rattle.adts_laws.proofs.RoundTrips.{block-there}
use Rattle.promises.specs.Allowed.{FrameAllowed}

-- the id of an element that was read
element-is : (id : ℕ) (s : List ℕ) (at end v next : ℕ) → element id s at end ≡ got v next → element id s at end ≡ got id (at + 3)
unfolding element
element-is id s at end v next e =
    let w = tested-got (field 3 s at end) 53 (λ x. eqb x id) at next v e in
    let t = field-taken 3 s at end next v w.0 in
    let i : v ≡ id = eqb-true v id w.1 in
    let n : next ≡ at + 3 = t.2 in
    e ∙ ap (λ (k : ℕ). got k next) i ∙ ap (got id) n

module _ (index : ℕ) (s : List ℕ) (end : ℕ) where
  -- the parts of a block that was read
  first-parts : (x : Block) (last : ℕ) → single_channel index s 56 end ≡ got x last
      → (element 0 s 56 end ≡ got 0 59) × (t : ℕ) × (field 4 s 59 end ≡ got t 63)
  unfolding single_channel
  first-parts x last e =
      let id = split (element 0 s 56 end) _ s end last x e in
      let own = element-is 0 s 56 end id.0 id.1 id.2 in
      let same = sym id.2 ∙ own in
      let n : id.1 ≡ 59 = cc in
      let tag = split (field 4 s id.1 end) _ s end last x id.3 in
      let t = field-taken 4 s id.1 end tag.1 tag.0 tag.2 in
      let m : tag.1 ≡ 63 = omega arith in
      (own, tag.0, ap (λ (k : ℕ). field 4 s k end) (sym n) ∙ tag.2 ∙ ap (got tag.0) m)

  -- the end of a block that was read
  end-left : (x y : Block) (at next : ℕ) → ended x s at end ≡ got y next → (x ≡ y) × (end - at ≤ 7)
  unfolding ended
  end-left x y at next e = go (leb (end - at) 7) refl e
    where
      go : (b : Bool) → leb (end - at) 7 ≡ b → pick b (got x at) (refused 12 at) ≡ got y next → (x ≡ y) × (end - at ≤ 7)
      go true p e = (same-value e, leb-true _ _ p)
      go false p e = never e

  block-parts : (x : Block) (next : ℕ) → raw_block index s 56 end ≡ got x next
      → (element 0 s 56 end ≡ got 0 59)
      × (t : ℕ) × (field 4 s 59 end ≡ got t 63)
      × (element 7 s (63 + x.bits) end ≡ got 7 (63 + x.bits + 3))
      × (end - (63 + x.bits + 3) ≤ 7)
  unfolding raw_block
  block-parts x next e =
      let lone = split (single_channel index s 56 end) _ s end next x e in
      let close = split (element 7 s lone.1 end) _ s end next x lone.3 in
      let left = end-left lone.0 x close.1 next close.3 in
      let parts = first-parts lone.0 lone.1 lone.2 in
      let own = element-is 7 s lone.1 end close.0 close.1 close.2 in
      let last : lone.1 ≡ 63 + x.bits =
      (element-held index s end lone.0 lone.1 lone.2).1 ∙ ap (λ (b : Block). 63 + b.bits) left.0 in
      let same = sym close.2 ∙ own in
      let next-there : close.1 ≡ lone.1 + 3 = cc in (
        parts.0,
        parts.1,
        parts.2,
        ap (λ (k : ℕ). element 7 s k end) (sym last) ∙ own ∙ ap (λ (k : ℕ). got 7 (k + 3)) last,
        omega (arith, left.1),
      )

  parts-of : (y : Answer Block) → raw_block index s 56 end ≡ y → (x : Stream) (bits : ℕ) → stream_in y ≡ got x bits
      → (element 0 s 56 end ≡ got 0 59)
      × (t : ℕ) × (field 4 s 59 end ≡ got t 63)
      × (element 7 s (63 + bits) end ≡ got 7 (63 + bits + 3))
      × (end - (63 + bits + 3) ≤ 7)
  parts-of (refused n p) q x bits e = never e
  parts-of (got b next) q x bits e = let n : b.bits ≡ bits = cc in rw (← n) (block-parts b next q)

-- of the frame at a byte of a file
module _ (file : List ℕ) (start : ℕ) (o : Outputs) (h : Header) (x : Stream) (bits : ℕ) where
  abbrev bytes : List ℕ
  bytes = drop start file

  abbrev end : ℕ
  end = 8 * h.length

  pub frame-allowed : FrameAllowed file start o h x bits
      → (header_at file start (have_room o) ≡ got h 56)
      × (stream_at file start (header_at file start (have_room o)) ≡ got x bits)
  unfolding header_at frame_header fitting
  frame-allowed a =
      let header : header_at file start (have_room o) ≡ got h 56 =
      rw (
        le-leb start (length file) a.inside,
        a.fit,
        a.header.1,
        le-leb 7 h.length a.long,
        le-leb h.length (length bytes) a.there,
      ) in
      let block = block-there h.index bytes end bits x a.opening a.tag.1 a.read a.finish a.left in
      (header, ap (stream_at file start) header ∙ block)

  pub frame-exactly : header_at file start (have_room o) ≡ got h 56
      → stream_at file start (header_at file start (have_room o)) ≡ got x bits
      → FrameAllowed file start o h x bits
  unfolding frame_header
  frame-exactly e f =
      let there = header-there file start (have_room o) h 56 e in
      let held = accepted (length bytes) (whole_header bytes 0 (8 * length bytes)) h 56 there.2 in
      let block = ap (stream_at file start) (sym e) ∙ f in
      let parts = parts-of h.index bytes end (raw_block h.index bytes 56 end) refl x bits block in
      record {
        inside = there.0;
        fit = there.1;
        header = (held.0, held.1);
        long = held.2;
        there = held.3;
        opening = parts.0;
        tag = (parts.1, parts.2);
        read = (stream-held h.index bytes end (raw_block h.index bytes 56 end) refl x bits block).1;
        finish = parts.3;
        left = parts.4;
      }
