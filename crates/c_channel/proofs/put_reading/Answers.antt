-- The word, the five bytes and the groups are put one after another, so they make one run of 17.
-- Assumes nothing.
use mathlib.Core.Path.{refl, ◌∙◌}
use mathlib.Core.List.{[], ◌∷◌}
use native.Mathlib.Omega.{arith}
use Rattle.bits.specs.Bytes.{word_of}
use Rattle.bits.proofs.OverLaws.{Put, put_next}
use Rattle.c_channel.specs.ReadChannel.{channel_bytes}
use Rattle.c_channel.proofs.put_reading.Goals as goal

pub returns : goal.returns
unfolding channel_bytes word_of
returns c =
    let a = c.args in
    let r = a.r in
    let at-4 : Put a.answer.now 0 (word_of r.bits) 4 c.put.new.out = (c.put.ensures ∙ rw c.word_of-word.ensures, refl) in
    let at_9 = put_next a.answer.now 0 _ 4 (r.gain ∷ r.sequence ∷ r.shape ∷ r.max_sfb ∷ r.group_count ∷ []) 5 at-4
    (c.put-2.ensures, refl) (omega arith) in
    put_next a.answer.now 0 _ 9 r.groups 8 at_9 c.put_groups.ensures (omega arith)
