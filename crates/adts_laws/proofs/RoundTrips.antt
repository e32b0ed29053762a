-- Wrapping, unwrapping and reading undo each other: a stream is read to the same wherever its bits stand.
-- Assumes nothing.
use Prim.Native.Nat.{ℕ, ◌+◌, ◌*◌, ◌-◌, ◌<◌, ◌≤◌}
use mathlib.Core.Path.{◌≡◌, refl, sym, ◌∙◌, ap}
use mathlib.Core.List.{List, [], ◌∷◌}
use native.Mathlib.Omega.{arith}
use lib.ListN.{length}
use borrow.Author.Tests.{le-leb, eq-eqb}
use Rattle.bits.specs.Bits.{bits_from}
use Rattle.bits.specs.Reader.{got}
use Rattle.bits.specs.Field.{field}
use Rattle.bits.specs.Pieces.{piece}
use Rattle.bits.specs.Payload.{ended, whole}
use Rattle.bits.specs.Places.{here}
use Rattle.bits.proofs.Back.{holds-first, holds-rest}
use Rattle.bits.proofs.FieldLaws.{is_field}
use Rattle.bits.proofs.Moves.{Alike}
use Rattle.bits.proofs.PayloadLaws.{whole-got, whole_is}
use Rattle.channel.specs.Stream.{Stream, stream}
use Rattle.channel.proofs.StreamMoves.{stream-moves}
use Rattle.channel.proofs.StreamNear.{stream-near}
use Rattle.adts.specs.Block.{element, single_channel, raw_block}
use Rattle.adts.specs.Frame.{stream_in}
use Rattle.adts.specs.Cut.{each_bit, cut_out}
use Rattle.adts.specs.Wrapping.{spell_block, frame_length, wrapping}
use Rattle.adts.proofs.BlockLaws.{stream-held}
use Rattle.adts.proofs.CutLaws.{each-total}
use Rattle.adts_laws.proofs.CutBits.{holds-alike, cut-alike, cut-length, cut-same}
use Rattle.adts_laws.proofs.WrappedBits.{block-holds}

-- two streams with the same numbers: head, books, scale factors and lines
pub record SameNumbers (x y : Stream) : Type 0 where
  pub head : x.head ≡ y.head
  pub books : x.books ≡ y.books
  pub factors : x.factors ≡ y.factors
  pub lines : x.coded.lines ≡ y.coded.lines

pub same_trans : {x y z : Stream} → SameNumbers x y → SameNumbers y z → SameNumbers x z
same_trans a b = record {
  head = a.head ∙ b.head;
  books = a.books ∙ b.books;
  factors = a.factors ∙ b.factors;
  lines = a.lines ∙ b.lines;
}

-- a stream that is read at one place is read at another that has its bits
moved : (index : ℕ) (s : List ℕ) (at end n : ℕ) (x : Stream) → stream index s at end ≡ got x (at + n) → (t : List ℕ) (place end' : ℕ)
    → place + n ≤ end' → Alike s at t place n → (y : Stream) × (stream index t place end' ≡ got y (place + n)) × SameNumbers y x
moved index s at end n x e t place end' h q =
    let d : at + n - at ≡ n = omega arith in
    let w = stream-moves index s at end (at + n) x e t place end' (rw d h) (λ i l. q i (omega arith)) in
    (w.0, w.1 ∙ ap (λ (k : ℕ). got w.0 (place + k)) d, record { head = w.2; books = w.3; factors = w.4; lines = w.5 })

-- a stream that stands in a frame is a payload of its own, once it is cut out
pub unwrapped-reads : (index : ℕ) (s : List ℕ) (end n : ℕ) (x : Stream) → stream_in (raw_block index s 56 end) ≡ got x n
    → (y : Stream) × (whole (stream index) (cut_out s 63 n) ≡ got y n) × SameNumbers y x
unwrapped-reads index s end n x e =
    let t = cut_out s 63 n in
    let h = stream-held index s end (raw_block index s 56 end) refl x n e in
    let l = cut-length s 63 n in
    let w = moved index s 63 end n x h.1 t 0 (8 * length t) (omega arith) (cut-alike s 63 n) in
    (w.0, whole_is (stream index) t n w.0 (w.1 ∙ ap (got w.0) (let z : 0 + n ≡ n = omega arith in z)) (omega arith), w.2)

-- the id of an element that stands at a place
element-there : (id : ℕ) (s : List ℕ) (at end : ℕ) → at + 3 ≤ end → bits_from s at 3 ≡ id → element id s at end ≡ got id (at + 3)
unfolding element
element-there id s at end h e = rw (← is_field 3 s at end h (sym e), eq-eqb id id refl)

-- the block of a frame whose parts are read one after another
pub block-there : (index : ℕ) (s : List ℕ) (end n : ℕ) (x : Stream) {t : ℕ} → element 0 s 56 end ≡ got 0 59 → field 4 s 59 end ≡ got t 63
    → stream index s 63 end ≡ got x (63 + n) → element 7 s (63 + n) end ≡ got 7 (63 + n + 3) → end - (63 + n + 3) ≤ 7
    → stream_in (raw_block index s 56 end) ≡ got x n
unfolding raw_block single_channel here ended
block-there index s end n x id tag there last left =
    let used : 63 + n - 63 ≡ n = omega arith in
    rw (id, tag, there, last, le-leb _ 7 left, used)

-- a stream that is accepted, and the frame that wraps the bits that it used
module _ (index : ℕ) (bytes : List ℕ) (n : ℕ) (x : Stream) (e : whole (stream index) bytes ≡ got x n) where
  -- it is short, so that its frame's length fits 13 bits
  pub short : n ≤ 38000
  short = omega (arith, (stream-near index).law bytes 0 (8 * length bytes) n x (whole-got (stream index) bytes n x e).0)

  module _ (small : index < 16) where
    -- its bits stand in the frame from bit 63 on
    pub wrapped-alike : Alike bytes 0 (wrapping index bytes n) 63 n
    unfolding spell_block
    wrapped-alike =
        let h = (block-holds index bytes n small short).1.1 in
        holds-alike bytes (wrapping index bytes n) 0 63 n (holds-first (wrapping index bytes n) 63 (each_bit bytes 0 n) (piece 7 3 ∷ []) h)

    -- and there it is read to the same numbers
    pub wrapped-reads : (y : Stream)
        × (stream_in (raw_block index (wrapping index bytes n) 56 (8 * frame_length n)) ≡ got y n)
        × SameNumbers y x
    unfolding spell_block
    wrapped-reads =
        let f = wrapping index bytes n in
        let end : ℕ = 8 * frame_length n in
        let h = block-holds index bytes n small short in
        let own = (whole-got (stream index) bytes n x e).0 ∙ ap (got x) (let z : n ≡ 0 + n = omega arith in z) in
        let w = moved index bytes 0 (8 * length bytes) n x own f 63 end (omega arith) wrapped-alike in
        let last = rw (each-total bytes 0 n) at (holds-rest f 63 (each_bit bytes 0 n) (piece 7 3 ∷ []) h.1.1).0 in (
          w.0,
          block-there index f end n w.0 (element-there 0 f 56 end (omega arith) h.0)
              (sym (is_field 4 f 59 end (omega arith) (sym h.1.0)))
              w.1 (element-there 7 f (63 + n) end (omega arith) last) (omega arith),
          w.2,
        )

    -- cut out of it, the bits are those that the stream used
    pub wrapped-cut : cut_out (wrapping index bytes n) 63 n ≡ cut_out bytes 0 n
    wrapped-cut = sym (cut-same bytes (wrapping index bytes n) 0 63 n wrapped-alike)
