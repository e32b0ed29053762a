-- The raw block's parts one after another, by what each of them answered.
-- Assumes nothing.
use Prim.Native.Nat.{ℕ, ◌+◌, ◌-◌, ◌≤◌}
use mathlib.Core.Path.{◌≡◌, refl, sym, ◌∙◌, ap}
use mathlib.Core.Bool.{Bool, true, false}
use mathlib.Core.List.{List}
use lib.Dec.{eqb, leb}
use lib.IntN.{ℤ}
use native.Mathlib.Omega.{arith}
use Rattle.bits.specs.Reader.{Answer, got, refused, pick, ◌>>=◌}
use Rattle.bits.specs.Field.{field}
use Rattle.bits.specs.Places.{here}
use Rattle.bits.specs.Payload.{ended}
use Rattle.bits.proofs.FieldLaws.{field-taken}
use Rattle.bits.proofs.Lawful.{never, same-value, split, tested-got}
use Rattle.bits.specs.declared.Refusal.{Refusal}
use Rattle.std.specs.Prelude.{Result, Ok, Err}
use Rattle.channel.proofs.StreamLawful.{stream-lawful}
use Rattle.channel.specs.Stream.{Stream, stream}
use Rattle.channel.specs.InnerAnswers.{HoldsStream}
use Rattle.channel.specs.declared.stream.Head.{Head}
use Rattle.adts.specs.Block.{Block, element, single_channel, raw_block}
use Rattle.adts.specs.Frame.{stream_in}
use Rattle.adts.specs.InnerAnswers.{HoldsElement, HoldsHead}

module _ (index : ℕ) (s : List ℕ) (end : ℕ) where
  -- an id or a tag that is refused
  pub no-id : {n p : ℕ} → element 0 s 56 end ≡ refused n p → single_channel index s 56 end ≡ refused n p
  unfolding single_channel
  no-id e = rw e

  pub no-tag : {v next n p : ℕ} → element 0 s 56 end ≡ got v next → field 4 s next end ≡ refused n p
      → single_channel index s 56 end ≡ refused n p
  unfolding single_channel
  no-tag e f = rw (e, f)

  -- the stream stands at bit 63
  tag_at : {v w next first : ℕ} → element 0 s 56 end ≡ got v next → field 4 s next end ≡ got w first → first ≡ 63
  unfolding element
  tag_at {v} {w} {next} {first} e f =
      let i = field-taken 3 s 56 end next v (tested-got (field 3 s 56 end) 53 (λ x. eqb x 0) 56 next v e).0 in
      let t = field-taken 4 s next end first w f in
      omega arith

  -- the stream after them
  pub after_tag : {v w next first : ℕ} → element 0 s 56 end ≡ got v next → field 4 s next end ≡ got w first
      → (r : Result (Head × ℕ) Refusal) (books factors : List ℕ) (lines : List ℤ)
      → HoldsStream r books factors lines (stream index s first end)
      → HoldsElement r books factors lines (single_channel index s 56 end)
  unfolding single_channel here
  after_tag {next = next} {first = first} e f (Ok h) books factors lines o =
      let a = tag_at e f in
      (o.0, o.1, rw (e, f, o.2, a))
  after_tag e f (Err q) books factors lines o = rw (e, f, o)

  -- the block of an element that is refused
  pub no-element : {n p : ℕ} → single_channel index s 56 end ≡ refused n p → stream_in (raw_block index s 56 end) ≡ refused n p
  unfolding raw_block
  no-element e = rw e

  -- the block of an element, and how what stands after it ended
  pub with-element : {x : Block} {last : ℕ} → single_channel index s 56 end ≡ got x last
      → raw_block index s 56 end ≡ (element 7 >>= λ id. ended x) s last end
  unfolding raw_block
  with-element e = rw e

  -- what stands after the element leaves its value as it is
  closed : (x y : Block) (m next : ℕ) → ended x s m end ≡ got y next → x ≡ y
  unfolding ended
  closed x y m next e = go (leb (end - m) 7) e
    where
      go : (b : Bool) → pick b (got x m) (refused 12 m) ≡ got y next → x ≡ y
      go true e = cc
      go false e = never e

  -- an element that is accepted holds a stream from bit 63 on
  pub element-held : (x : Block) (last : ℕ) → single_channel index s 56 end ≡ got x last
      → (63 ≤ end) × (last ≡ 63 + x.bits) × (stream index s 63 end ≡ got x.stream last)
  unfolding single_channel here element
  element-held x last e =
      let id = split (element 0 s 56 end) _ s end last x e in
      let tag = split (field 4 s id.1 end) _ s end last x id.3 in
      let a = tag_at id.2 tag.2 in
      let t = field-taken 4 s id.1 end tag.1 tag.0 tag.2 in
      let there = split (stream index s tag.1 end) _ s end last x tag.3 in
      let value = same-value there.3 in
      let next : there.1 ≡ last = cc in
      let w = (stream-lawful index).accepts.within s tag.1 end there.1 there.0 (omega arith) there.2 in
      let used : x.bits ≡ there.1 - tag.1 = sym (ap (λ (y : Block). y.bits) value) in
      let same = ap (λ (y : Block). got y.stream there.1) value ∙ ap (got x.stream) next in
      (omega arith, omega arith, ap (λ (k : ℕ). stream index s k end) (sym a) ∙ there.2 ∙ same)

  -- so does a block
  pub block_held : (x : Block) (next : ℕ) → raw_block index s 56 end ≡ got x next
      → (63 ≤ end) × (stream index s 63 end ≡ got x.stream (63 + x.bits))
  unfolding raw_block
  block_held x next e =
      let element-there = split (single_channel index s 56 end) _ s end next x e in
      let end-there = split (element 7 s element-there.1 end) _ s end next x element-there.3 in
      let same = closed element-there.0 x end-there.1 next end-there.3 in
      let h = element-held x element-there.1 (element-there.2 ∙ ap (λ (y : Block). got y element-there.1) same) in
      (h.0, h.2 ∙ ap (got x.stream) h.1)

  pub stream-held : (y : Answer Block) → raw_block index s 56 end ≡ y → (x : Stream) (bits : ℕ) → stream_in y ≡ got x bits
      → (63 ≤ end) × (stream index s 63 end ≡ got x (63 + bits))
  stream-held (got b next) e x bits f =
      let h = block_held b next e in
      let v = same-value f in
      let n : b.bits ≡ bits = cc in
      (h.0, h.1 ∙ rw (v, n))
  stream-held (refused n p) e x bits f = never f

  -- how many bits a stream can have used
  pub bits-within : (x : Stream) (bits : ℕ) → stream_in (raw_block index s 56 end) ≡ got x bits → 63 + bits ≤ end
  bits-within x bits e =
      let h = stream-held (raw_block index s 56 end) refl x bits e in
      ((stream-lawful index).accepts.within s 63 end (63 + bits) x h.0 h.1).1

-- a stream that was read, whatever its arrays are
pub head-held : (r : Result (Head × ℕ) Refusal) (books factors : List ℕ) (lines : List ℤ) (x : Answer Stream)
    → HoldsStream r books factors lines x → HoldsHead r x
head-held (Ok h) books factors lines x o = (record { head = h.0; books = books; factors = factors; coded = o.0 }, refl, o.2)
head-held (Err e) books factors lines x o = o

-- what the code cites
pub ruleset element_laws = (no-id, no-tag, after_tag)

pub ruleset block_laws = (no-element, with-element)

pub ruleset lone_laws = (head-held)

pub ruleset short_laws = (bits-within)
