-- Two words are put one after the other, so they make one run of eight bytes.
-- Assumes nothing.
use mathlib.Core.Path.{refl, ◌∙◌}
use native.Mathlib.Omega.{arith}
use Rattle.bits.specs.Bytes.{word_of}
use Rattle.bits.proofs.OverLaws.{Put, put_next}
use Rattle.c_image.proofs.put_words.Goals as goal

pub returns : goal.returns
unfolding word_of
returns c =
    let a = c.args in
    let s = a.answer.now in
    let at-4 : Put s a.at (word_of a.first) 4 c.put.new.out = (c.put.ensures ∙ rw c.word_of-low.ensures, refl) in
    (put_next s a.at _ 4 (word_of a.second) 4 at-4 (c.put-2.ensures ∙ rw c.word_of-high.ensures, refl) (omega arith)).0
