-- The word and the three runs of six bytes are put one after another, so they make one run of 22.
-- Assumes nothing.
use Prim.Native.Nat.{◌≤◌}
use mathlib.Core.Path.{refl, ◌∙◌}
use native.Mathlib.Omega.{arith}
use lib.ListN.{length}
use Rattle.bits.specs.Bytes.{word_of}
use Rattle.c_layout.specs.ContentsBytes.{header_bytes, frame_bytes, extension_bytes, answer_head}
use Rattle.bits.proofs.OverLaws.{Put, put_next}
use Rattle.c_layout.proofs.answers.put_head.Goals as goal

pub returns : goal.returns
unfolding answer_head word_of
returns c =
    let extension = c in
    let frame = extension in
    let header = frame in
    let word = header in
    let entry = word in
    let s = entry.args.out.now in
    let long : 22 ≤ length s = entry.requires in
    let at-4 : Put s 0 (word_of entry.args.bits) 4 word.put.new.out =
    (word.put.ensures ∙ rw word.word_of-word.ensures, refl) in
    let at-10 = put_next s 0 _ 4 (header_bytes entry.args.contents.now.header) 6 at-4
    (header.put-2.ensures ∙ rw header.header_bytes-header.ensures, refl) (omega arith) in
    let at-16 = put_next s 0 _ 10 (frame_bytes entry.args.contents.now.frame) 6 at-10
    (frame.put-3.ensures ∙ rw frame.frame_bytes-frame.ensures, refl) (omega arith) in
    put_next s 0 _ 16 (extension_bytes entry.args.contents.now.extension) 6 at-16
    (extension.put-4.ensures ∙ rw extension.extension_bytes-extension.ensures, refl) (omega arith)
