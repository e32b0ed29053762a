-- No byte outside a frame counts: its header is read from its first 7 bytes, and its block ends where it ends.
-- Assumes nothing.
use Prim.Native.Nat.{ℕ, ◌*◌, ◌≤◌}
use mathlib.Core.Path.{◌≡◌, refl, sym, ◌∙◌, ap}
use mathlib.Core.Bool.{Bool, true, false, ◌&&◌}
use mathlib.Core.List.{List}
use native.Mathlib.Omega.{arith}
use lib.Dec.{leb}
use lib.ListN.{length, take}
use native.Mathlib.Decide.{dec_le}
use lib.Seq.{take_all, length-take-le}
use borrow.Author.Tests.{le-leb, leb-true}
use Rattle.bits.specs.Bits.{bit_at}
use Rattle.bits.specs.Reader.{Answer, got, refused, pick}
use Rattle.bits.specs.Places.{placed, one_field}
use Rattle.bits.specs.Inside.{renumbered, inside}
use Rattle.bits.specs.Field.{field}
use Rattle.bits.specs.Payload.{ended}
use Rattle.bits.specs.Sampling.{known_index}
use Rattle.bits.proofs.BitLaws.{Same}
use Rattle.bits.proofs.Lawful.{Lawful, never, same-value, after-local, bind_lawful, give-lawful, expecting-lawful}
use Rattle.bits.proofs.FieldLaws.{field-lawful}
use Rattle.bits.proofs.Gives.{Gives, give-gives, bind_gives, then_gives, expecting-gives}
use Rattle.bits.proofs.PlacesLaws.{here-lawful}
use Rattle.bits.proofs.PayloadLaws.{bit_take}
use Rattle.channel.proofs.StreamLawful.{stream-lawful}
use Rattle.adts.specs.Header.{Header, syncword, only, sampling_index, fixed_half, variable_half, header}
use Rattle.adts.specs.Block.{element, single_channel, raw_block}
use Rattle.adts.specs.Frame.{whole_header, fitting, length_judged, frame_header}

ruleset laws = (bind_lawful, give-lawful, expecting-lawful, field-lawful, here-lawful)

header-lawful : Lawful header
unfolding header fixed_half variable_half syncword only sampling_index
header-lawful = search laws depth 24

pub element-lawful : (id : ℕ) → Lawful (element id)
unfolding element
element-lawful id = search laws depth 4

pub channel-lawful : (index : ℕ) → Lawful (single_channel index)
unfolding single_channel
channel-lawful index = search (laws, element-lawful, stream-lawful) depth 16

-- the block goes by the bits before its end
pub block-local : (index : ℕ) (b c : List ℕ) (end : ℕ) → 56 ≤ end → Same b c 56 end → raw_block index b 56 end ≡ raw_block index c 56 end
unfolding raw_block ended
block-local index b c end h q =
    let g = channel-lawful index in
    after-local (single_channel index) _ b c 56 end (g.accepts.local b c 56 end h q) λ x m e.
    let w = g.accepts.within b 56 end m x h e in
    let id = (element-lawful 7).accepts.local b c m end w.1 (λ i l r. q i (omega arith) r) in
    after-local (element 7) (λ v. ended x) b c m end id (λ v k f. refl)

-- a header that is accepted: its length is judged, and it is the one that its bits say
pub accepted : (there : ℕ) (x : Answer Header) (h : Header) (next : ℕ) → length_judged there x ≡ got h next
    → (m : ℕ) × (x ≡ got h m) × (7 ≤ h.length) × (h.length ≤ there)
unfolding fitting
accepted there (refused n p) h next e = never e
accepted there (got g m) h next e = go (leb 7 g.length) refl (leb g.length there) refl e
  where
    go : (a : Bool) → leb 7 g.length ≡ a → (b : Bool) → leb g.length there ≡ b → pick (a && b) (got g 56) (refused 52 0) ≡ got h next
        → (k : ℕ) × (got g m ≡ got h k) × (7 ≤ h.length) × (h.length ≤ there)
    go true p true q e =
        let v = same-value e in
        (m, ap (λ (x : Header). got x m) v, rw (← v) (leb-true _ _ p), rw (← v) (leb-true _ _ q))
    go false p b q e = never e
    go true p false q e = never e

-- a header that is whole, by its first 7 bytes
whole-header : (b : List ℕ) → 7 ≤ length b → frame_header b ≡ length_judged (length b) (placed (renumbered 10 (header b 0 56)) 0)
unfolding frame_header whole_header one_field inside
whole-header b h = rw (le-leb 56 (8 * length b) (omega arith))

-- what is known of a header that is accepted
pub header-held : (b : List ℕ) (h : Header) (next : ℕ) → frame_header b ≡ got h next
    → (m : ℕ) × (placed (renumbered 10 (header b 0 56)) 0 ≡ got h m) × (7 ≤ h.length) × (h.length ≤ length b)
unfolding frame_header
header-held b h next e =
    let a = accepted (length b) (whole_header b 0 (8 * length b)) h next e in
    accepted (length b) (placed (renumbered 10 (header b 0 56)) 0) h next (sym (whole-header b (omega (arith, a.2, a.3))) ∙ e)

-- two lists of bytes whose first n are the same have the same bits there
pub front_same : (b c : List ℕ) (n : ℕ) → take n b ≡ take n c → Same b c 0 (8 * n)
front_same b c n e i l r = sym (bit_take b n i r) ∙ ap (λ (s : List ℕ). bit_at s i) e ∙ bit_take c n i r

-- and one is as long as the other
front_long : (b c : List ℕ) (n : ℕ) → take n b ≡ take n c → n ≤ length b → n ≤ length c
front_long b c n e h =
    elim (dec_le n (length c)) [
      | yes d ↦ d
      | no d ↦
          let short = ap length (take_all n c (omega arith)) in
          let long = length-take-le n b h in
          let same = ap length e in
          absurd (omega arith)
    ]

module _ (b c : List ℕ) (h : Header) (next : ℕ) (e : frame_header b ≡ got h next) (q : take h.length b ≡ take h.length c) where
  -- the header is read to the same
  pub same-header : frame_header c ≡ got h 56
  unfolding fitting
  same-header =
      let a = header-held b h next e in
      let long = front_long b c h.length q a.3 in
      let same = header-lawful.accepts.local c b 0 56 (omega arith)
      (λ i l r. sym (front_same b c h.length q i l (omega (arith, a.2)))) in
      whole-header c (omega (arith, a.2))
      ∙ ap (λ (x : Answer Header). length_judged (length c) (placed (renumbered 10 x) 0)) same
      ∙ ap (length_judged (length c)) a.1
      ∙ rw (le-leb 7 h.length a.2, le-leb h.length (length c) long)

  -- and so is the block
  pub same_block : raw_block h.index c 56 (8 * h.length) ≡ raw_block h.index b 56 (8 * h.length)
  same_block =
      let a = header-held b h next e in
      sym (block-local h.index b c (8 * h.length) (omega (arith, a.2)) (λ i l r. front_same b c h.length q i (omega arith) r))

-- a sampling index that is accepted is one that streams have
fixed_known : Gives (λ index. known_index index ≡ true) fixed_half
unfolding fixed_half sampling_index
fixed_known =
    then_gives syncword λ sync. then_gives (field 1) λ version. then_gives (only 0 2) λ layer. then_gives (only 1 1) λ absent.
    then_gives (only 1 2) λ profile. bind_gives (expecting-gives 51 known_index (field 4)) λ index known.
    then_gives (field 1) λ private. then_gives (only 1 3) λ channels. then_gives (field 1) λ original. then_gives (field 1) λ home.
    give-gives known

header-known : Gives (λ h. known_index h.index ≡ true) header
unfolding header
header-known = bind_gives fixed_known λ index known. then_gives variable_half λ size. give-gives known

pub index-known : (b : List ℕ) (h : Header) (next : ℕ) → frame_header b ≡ got h next → known_index h.index ≡ true
index-known b h next e =
    let a = header-held b h next e in
    header-known.law b 0 56 a.0 h (go (header b 0 56) a.0 a.1)
  where
    go : (x : Answer Header) (m : ℕ) → placed (renumbered 10 x) 0 ≡ got h m → x ≡ got h m
    go (got g k) m f = f
    go (refused n p) m f = never f
