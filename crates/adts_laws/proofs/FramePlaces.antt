-- How far the place of a frame's refusal is at most: a header is refused at its first bit, a block no further than the frame's end, and a
-- frame has 8,191 bytes at most.
-- Assumes nothing.
use Prim.Native.Nat.{ℕ, ◌*◌, ◌<◌, ◌≤◌}
use mathlib.Core.Path.{◌≡◌, refl}
use mathlib.Core.Bool.{Bool, true, false, ◌&&◌}
use mathlib.Core.List.{List, [], ◌∷◌}
use native.Mathlib.Omega.{arith}
use lib.Dec.{leb}
use lib.ListN.{length, drop}
use Rattle.bits.specs.Reader.{Answer, got, refused, pick}
use Rattle.bits.specs.Field.{field}
use Rattle.bits.specs.Places.{one_field}
use Rattle.bits.specs.Inside.{inside}
use Rattle.bits.specs.Calls.{◌or◌, first_refusal}
use Rattle.bits.proofs.Gives.{Gives, give-gives, bind_gives, then_gives, field-gives, inside-gives}
use Rattle.bits.proofs.Lawful.{not-refused, same_place, after-placed}
use Rattle.bits.proofs.PayloadLaws.{ended-placed}
use Rattle.bits.proofs.PlacesLaws.{placed-got, placed-refused}
use Rattle.channel.specs.Stream.{Stream}
use Rattle.adts.specs.Header.{Header, only, fixed_half, variable_half, header}
use Rattle.adts.specs.Block.{Block, element, single_channel, raw_block}
use Rattle.adts.specs.Frame.{whole_header, fitting, length_judged, frame_header, block_after, stream_in}
use Rattle.adts.specs.Promise.{header_at, stream_at, fitted}
use Rattle.adts_laws.proofs.Outside.{element-lawful, channel-lawful, accepted, header-held}

size-short : Gives (λ n. n < 8192) variable_half
unfolding variable_half
size-short =
    then_gives (field 1) λ id.
    then_gives (field 1) λ start.
    bind_gives (field-gives 13) λ size h.
    then_gives (field 11) λ fullness.
    then_gives (only 0 2) λ blocks. give-gives h

header-short : Gives (λ h. h.length < 8192) header
unfolding header
header-short = then_gives fixed_half λ index. bind_gives size-short λ size h. give-gives h

-- a frame's length has 13 bits
pub length-short : (s : List ℕ) (h : Header) (next : ℕ) → frame_header s ≡ got h next → h.length < 8192
unfolding frame_header whole_header one_field
length-short s h next e =
    let held = accepted (length s) (whole_header s 0 (8 * length s)) h next e in
    (inside-gives 56 10 header header-short).law s 0 (8 * length s) held.0 h (placed-got _ 0 held.0 h held.1)

-- a header is refused at its first bit
header-placed : (s : List ℕ) (n p : ℕ) → frame_header s ≡ refused n p → p ≡ 0
unfolding frame_header whole_header one_field fitting
header-placed s n p e = by-header (whole_header s 0 (8 * length s)) (placed-refused (inside 56 10 header s 0 (8 * length s)) 0) e
  where
    by-header : (x : Answer Header) → ((m q : ℕ) → x ≡ refused m q → 0 ≡ q) → length_judged (length s) x ≡ refused n p → p ≡ 0
    by-header (refused m q) f e = let z = f m q refl in let y = same_place {A = Header} e in omega arith
    by-header (got h next) f e = by_length (leb 7 h.length && leb h.length (length s)) e
      where
        by_length : (b : Bool) → pick b (got h 56) (refused 52 0) ≡ refused n p → p ≡ 0
        by_length true e = not-refused e
        by_length false e = let y = same_place {A = Header} e in omega arith

-- a block is refused no further than its end
block-placed : (index : ℕ) (s : List ℕ) (end n p : ℕ) → 56 ≤ end → raw_block index s 56 end ≡ refused n p → p ≤ end
unfolding raw_block
block-placed index s end n p h =
    after-placed (single_channel index) _ s 56 end n p (λ m q. (channel-lawful index).placed s 56 end m q h) λ x m e.
    let a = (channel-lawful index).accepts.within s 56 end m x h e in
    after-placed (element 7) _ s m end n p (λ k q. (element-lawful 7).placed s m end k q a.1) λ id o f g.
    let b = (element-lawful 7).accepts.within s m end o id a.1 f in
    let c = ended-placed x s o end n p g in
    omega arith

block_in : (y : Answer Block) (n p : ℕ) → stream_in y ≡ refused n p → y ≡ refused n p
block_in (got x next) n p e = not-refused e
block_in (refused m q) n p e = cc

-- so is the stream of a frame
stream-placed : (s : List ℕ) (h : Answer Header) → frame_header s ≡ h → (n p : ℕ) → stream_in (block_after s h) ≡ refused n p → p ≤ 65528
stream-placed s (refused m q) e n p f =
    let z = header-placed s m q e in
    let y = same_place {A = Stream} f in
    omega arith
stream-placed s (got h next) e n p f =
    let a = header-held s h next e in
    let b = length-short s h next e in
    let c = block-placed h.index s (8 * h.length) n p (omega (arith, a.2)) (block_in _ n p f) in
    omega arith

pub frame-placed : (file : List ℕ) (start : ℕ) (room : Bool) (n p : ℕ) → stream_at file start (header_at file start room) ≡ refused n p
    → p ≤ 65528
unfolding header_at
frame-placed file start room n p = by_tests (leb start (length file)) room
  where
    first : (m : ℕ) → ◌≡◌ {A = Answer Stream} (refused m 0) (refused n p) → p ≤ 65528
    first m e = let y = same_place {A = Stream} e in omega arith

    by_tests : (a b : Bool)
        → stream_at file start (first_refusal (a or 1 ∷ b or 2 ∷ []) (λ m. refused m 0) (frame_header (drop start file))) ≡ refused n p
        → p ≤ 65528
    by_tests true true e = stream-placed (drop start file) (frame_header (drop start file)) refl n p e
    by_tests true false e = first 2 e
    by_tests false b e = first 1 e

-- a refusal for want of room stands at 0, every other where it stood
pub fitted-placed : (size : ℕ → ℕ) (room most : ℕ) (y : Answer Stream) → ((n p : ℕ) → y ≡ refused n p → p ≤ most) → (n p : ℕ)
    → fitted size room y ≡ refused n p → p ≤ most
fitted-placed size room most (refused m q) f n p e = f n p e
fitted-placed size room most (got x bits) f n p e = by-room (leb (size bits) room) e
  where
    by-room : (b : Bool) → pick b (got x bits) (refused 2 0) ≡ refused n p → p ≤ most
    by-room true e = not-refused e
    by-room false e = let y = same_place {A = Stream} e in omega arith
