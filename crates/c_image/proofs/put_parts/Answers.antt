-- After each turn the parts of so many payloads stand at the front.
-- Assumes nothing.
use Prim.Native.Nat.{ℕ, suc, ◌+◌, ◌*◌}
use mathlib.Core.Path.{◌≡◌, refl, sym, ap, ◌∙◌}
use mathlib.Core.List.{List, ◌++◌}
use native.Mathlib.Nat.{zero-add}
use native.Mathlib.Numerals.{add-one}
use native.Mathlib.Omega.{arith}
use lib.ListN.{length}
use Rattle.bits.specs.Bytes.{word_of}
use Rattle.bits.proofs.OverLaws.{Put, put-none, put_next, put_as}
use Rattle.image.specs.declared.Part.{Part}
use Rattle.image.proofs.PartLaws.{part-there}
use Rattle.c_image.specs.ImageCalls.{part_bytes, parts_bytes}
use Rattle.c_image.proofs.put_parts.Goals as goal

pub loop-k-init : goal.loop-k-init
unfolding parts_bytes
loop-k-init c = put-none c.args.answer.now 0

pub known_part-part-requires : goal.known_part-part-requires
known_part-part-requires c =
    let pre = c.requires in
    ap (λ (p : Part). p.number) (part-there _ _ pre.2 (omega arith))

-- one part more is eight bytes more
eight : (s : List ℕ) (k : ℕ) → length (part_bytes s k) ≡ 8
unfolding word_of
eight s k = refl

parts_more : (s : List ℕ) (k : ℕ) → parts_bytes s k ++ part_bytes s k ≡ parts_bytes s (suc k)
unfolding parts_bytes
parts_more s k = refl

pub loop-k-preserved : goal.loop-k-preserved
loop-k-preserved c =
    let l = c.loop-k in
    let before = c.args.answer.now in
    let s = c.args.image.now in
    let bytes = rw c.known_part-part.ensures.0 at c.put_words.ensures in
    let placed : Put l.answer (0 + 8 * l.k) (part_bytes s l.k) 8 c.put_words.new.answer = rw (zero-add (8 * l.k)) (bytes, eight s l.k) in
    let next = put_next before 0 (parts_bytes s l.k) (8 * l.k) (part_bytes s l.k) 8 l.invariant placed (omega arith) in
    let more = parts_more s l.k ∙ ap (λ (n : ℕ). parts_bytes s n) (sym (add-one l.k)) in
    put_as before 0 _ _ _ _ next more (omega arith)

pub returns : goal.returns
returns c =
    let l = c.loop-k in
    let e : l.k ≡ c.args.count = omega arith in
    rw e at l.invariant.0
