-- The reading, the length's word and the index are put one after another, so they make one run of 22.
-- Assumes nothing.
use mathlib.Core.Path.{refl, ◌∙◌}
use mathlib.Core.List.{[], ◌∷◌}
use native.Mathlib.Omega.{arith}
use Rattle.bits.specs.Bytes.{word_of}
use Rattle.bits.proofs.OverLaws.{Put, put_next}
use Rattle.c_channel.specs.ReadChannel.{channel_bytes}
use Rattle.c_adts.specs.FrameBytes.{frame_bytes}
use Rattle.c_adts.proofs.put_framed.Goals as goal

pub returns : goal.returns
unfolding frame_bytes word_of
returns c =
    let a = c.args in
    let r = a.r in
    let length : Put c.put_reading.new.answer 17 (word_of r.length) 4 c.put.new.out = (c.put.ensures ∙ rw c.word_of-word.ensures, refl) in
    let at-21 = put_next a.answer.now 0 (channel_bytes r.reading) 17 (word_of r.length) 4 c.put_reading.ensures length (omega arith) in
    (put_next a.answer.now 0 _ 21 (r.index ∷ []) 1 at-21 (c.put-2.ensures, refl) (omega arith)).0
