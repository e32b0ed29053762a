-- What a program in C takes out of the 22 bytes of an accepted frame's answer is what the call answers: a frame has 8,191 bytes at most and
-- its stream 38,000 bits, so that both words hold their numbers.
-- Assumes nothing.
use Prim.Native.Nat.{ℕ, ◌+◌, ◌*◌, ◌<◌, ◌≤◌}
use mathlib.Core.Path.{◌≡◌, refl, sym, ap, ◌∙◌}
use mathlib.Core.List.{List, [], ◌∷◌, ◌++◌, append_assoc}
use mathlib.Core.Bool.{Bool}
use native.Mathlib.Omega.{arith}
use lib.ListN.{length, drop, get_or}
use lib.Seq.{get_or-append-add}
use Rattle.bits.specs.Bits.{bits_from}
use Rattle.bits.specs.Reader.{got}
use Rattle.bits.specs.Bytes.{word_of}
use Rattle.bits.proofs.FourBytes.{word_back}
use Rattle.bits.proofs.OverLaws.{over-front}
use Rattle.channel.specs.Stream.{Stream}
use Rattle.channel.specs.Promise.{accepted}
use Rattle.channel.specs.declared.Reading.{Reading}
use Rattle.channel.specs.declared.stream.Head.{Head}
use Rattle.channel.proofs.StreamNear.{stream-near}
use Rattle.adts.specs.Header.{Header}
use Rattle.adts.specs.Block.{raw_block}
use Rattle.adts.specs.Promise.{header_at, stream_at, framed}
use Rattle.adts.specs.declared.Framed.{Framed}
use Rattle.adts.proofs.BlockLaws.{stream-held}
use Rattle.adts_laws.proofs.FrameCalls.{header-there}
use Rattle.adts_laws.proofs.FramePlaces.{length-short}
use Rattle.c_channel.specs.ReadChannel.{channel_bytes}
use Rattle.c_adts.specs.FrameBytes.{frame_bytes, frame_answer_after}
use Rattle.promises.specs.AnswerAt.{framed_at}
use Rattle.promises.proofs.AnswersBack.{reading-back, reading-long}

-- a frame's header, and the stream after it
frame-short : (file : List ℕ) (start : ℕ) (room : Bool) (h : Header) (next : ℕ) → header_at file start room ≡ got h next → h.length < 8192
frame-short file start room h next e = length-short (drop start file) h next (header-there file start room h next e).2

frame-few : (file : List ℕ) (start : ℕ) (h : Header) (next bits : ℕ) (x : Stream) → stream_at file start (got h next) ≡ got x bits
    → bits ≤ 38000
frame-few file start h next bits x e =
    let s = drop start file in
    let held = (stream-held h.index s (8 * h.length) (raw_block h.index s 56 (8 * h.length)) refl x bits e).1 in
    omega (arith, (stream-near h.index).law s 63 (8 * h.length) (63 + bits) x held)

module _ (h : Header) (bits : ℕ) (head : Head) (long : h.length < 4294967296) (few : bits < 4294967296) (answer : List ℕ) where
  abbrev reading : Reading
  reading = accepted head bits

  abbrev frame : Framed
  frame = record { index = h.index; length = h.length; reading = reading }

  -- the bytes afterwards: a channel answer, a word, a byte, and what is left of the old
  abbrev left : List ℕ
  left = drop (length (frame_bytes frame)) answer

  abbrev bytes : List ℕ
  bytes = channel_bytes reading ++ (word_of h.length ++ (h.index ∷ left))

  bytes-are : frame_answer_after frame answer ≡ bytes
  unfolding frame_bytes
  bytes-are =
      over-front answer (frame_bytes frame) _ refl
      ∙ append_assoc (channel_bytes reading ++ word_of h.length) (h.index ∷ []) left
      ∙ append_assoc (channel_bytes reading) (word_of h.length) (h.index ∷ left)

  frame_back : framed_at (frame_answer_after frame answer) ≡ frame
  unfolding word_of
  frame_back =
      let n = reading-long head bits in
      let back = reading-back head bits (word_of h.length ++ (h.index ∷ left)) few in
      let size : bits_from bytes 136 32 ≡ h.length = ap (λ (k : ℕ). bits_from bytes (8 * k) 32) (sym n)
      ∙ word_back (channel_bytes reading) (h.index ∷ left) h.length long in
      let last : get_or bytes 21 0 ≡ h.index = ap (λ (k : ℕ). get_or bytes (k + 4) 0) (sym n)
      ∙ get_or-append-add (channel_bytes reading) (word_of h.length ++ (h.index ∷ left)) 4 0 in
      ap framed_at bytes-are ∙ (λ j. record { index = last j; length = size j; reading = back j })

-- so it is of every frame that a call accepts
pub framed-back : (file : List ℕ) (start : ℕ) (room : Bool) (answer : List ℕ) (h : Header) (next bits : ℕ) (x : Stream)
    → header_at file start room ≡ got h next → stream_at file start (got h next) ≡ got x bits
    → framed_at (frame_answer_after (framed (got h next) (accepted x.head bits)) answer) ≡ framed (got h next) (accepted x.head bits)
framed-back file start room answer h next bits x e f =
    frame_back h bits x.head (omega (arith, frame-short file start room h next e))
    (omega (arith, frame-few file start h next bits x f)) answer
