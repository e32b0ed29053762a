-- What a frame that wraps a stream holds: each field of its header, and the stream's bits from bit 63 on.
-- Assumes nothing.
use Prim.Native.Nat.{ℕ, ◌<◌, ◌≤◌}
use mathlib.Core.Path.{◌≡◌, refl, sym, ◌∙◌, ap}
use mathlib.Core.Bool.{true}
use mathlib.Core.List.{List, [], ◌∷◌, ◌++◌}
use native.Mathlib.Omega.{arith}
use lib.ListN.{length}
use borrow.Author.Tests.{le-leb, eq-eqb}
use Rattle.bits.specs.Bits.{bits_from}
use Rattle.bits.specs.Reader.{got}
use Rattle.bits.specs.Pieces.{Piece, piece}
use Rattle.bits.specs.Packed.{bytes_for}
use Rattle.bits.specs.Sampling.{known_index}
use Rattle.bits.proofs.Holds.{Holds}
use Rattle.bits.proofs.PackedLaws.{packed-holds, packed-length}
use Rattle.bits.proofs.PutLaws.{Sized}
use Rattle.adts.specs.Cut.{each_bit}
use Rattle.adts.specs.Frame.{fitting, frame_header}
use Rattle.adts.specs.InnerHeader.{header_refusal}
use Rattle.adts.specs.Wrapping.{spell_kind, spell_voice, spell_variable_half, spell_block, frame_length, wrapping}
use Rattle.adts.proofs.HeaderLaws.{header-right}
use Rattle.adts.proofs.WrappingLaws.{frame-total}
use Rattle.adts_laws.proofs.CutBits.{sized-append, each-sized}

module _ (index : ℕ) (bytes : List ℕ) (n : ℕ) where
  abbrev frame : List ℕ
  frame = wrapping index bytes n

  abbrev spelled : List Piece
  spelled = spell_kind ++ spell_voice index ++ spell_variable_half (frame_length n) ++ spell_block bytes n

  pub frame-length : length frame ≡ frame_length n
  unfolding wrapping
  frame-length = packed-length spelled ∙ ap bytes_for (frame-total index (frame_length n) bytes n)

  module _ (small : index < 16) (short : n ≤ 38000) where
    -- every piece is a number of its size
    block-sized : Sized (spell_block bytes n)
    unfolding spell_block
    block-sized = (omega arith, (omega arith, sized-append (each_bit bytes 0 n) (piece 7 3 ∷ []) (each-sized bytes 0 n) (omega arith, tt)))

    half-sized : Sized (spell_variable_half (frame_length n))
    unfolding spell_variable_half
    half-sized = (omega arith, (omega arith, (omega arith, (omega arith, (omega arith, tt)))))

    voice-sized : Sized (spell_voice index)
    unfolding spell_voice
    voice-sized = (small, (omega arith, (omega arith, (omega arith, (omega arith, tt)))))

    kind-sized : Sized spell_kind
    unfolding spell_kind
    kind-sized = (omega arith, (omega arith, (omega arith, (omega arith, (omega arith, tt)))))

    frame-holds : Holds frame 0 spelled
    unfolding wrapping spell_kind spell_voice spell_variable_half
    frame-holds =
        let half = spell_variable_half (frame_length n) in
        let last = spell_block bytes n in
        packed-holds spelled
        (sized-append spell_kind (spell_voice index ++ (half ++ last)) kind-sized
        (sized-append (spell_voice index) (half ++ last) voice-sized (sized-append half last half-sized block-sized)))

    -- the fields of its header, at their places
    fields : (bits_from frame 0 12 ≡ 4095)
        × (bits_from frame 13 2 ≡ 0)
        × (bits_from frame 15 1 ≡ 1)
        × (bits_from frame 16 2 ≡ 1)
        × (bits_from frame 18 4 ≡ index)
        × (bits_from frame 23 3 ≡ 1)
        × (bits_from frame 30 13 ≡ frame_length n)
        × (bits_from frame 54 2 ≡ 0)
    unfolding spell_kind spell_voice spell_variable_half
    fields =
        let kind = frame-holds in
        let voice = kind.1.1.1.1.1 in
        let half = voice.1.1.1.1.1 in
        (kind.0, kind.1.1.0, kind.1.1.1.0, kind.1.1.1.1.0, voice.0, voice.1.1.0, half.1.1.0, half.1.1.1.1.0)

    -- the block, from bit 56 on
    pub block-holds : Holds frame 56 (spell_block bytes n)
    unfolding spell_kind spell_voice spell_variable_half
    block-holds = frame-holds.1.1.1.1.1.1.1.1.1.1.1.1.1.1.1

    -- no field of its header is at fault
    right : known_index index ≡ true → 0 ≡ header_refusal frame
    unfolding header_refusal
    right known =
        let f = fields in
        rw (
          eq-eqb _ _ f.0,
          eq-eqb _ _ f.1,
          eq-eqb _ _ f.2,
          eq-eqb _ _ f.3,
          f.4,
          known,
          eq-eqb _ _ f.5,
          eq-eqb _ _ f.7,
        )

    -- its header is read to its index and its length
    pub wrapped-header : known_index index ≡ true → frame_header frame ≡ got (record { index = index; length = frame_length n }) 56
    unfolding fitting
    wrapped-header known =
        let f = fields in
        sym (header-right frame (omega (arith, frame-length)) (right known) refl)
        ∙ rw (f.4, f.6, frame-length, le-leb 7 (frame_length n) (omega arith), le-leb (frame_length n) (frame_length n) (omega arith))
