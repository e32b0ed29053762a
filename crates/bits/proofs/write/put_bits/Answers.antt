-- What is left to be put makes the whole: in each turn the bits that stand in one byte go there, and the others follow.
use Prim.Native.Nat.{◌/◌}
use mathlib.Core.Path.{◌≡◌, refl, ◌∙◌}
use native.Mathlib.Omega.{arith}
use borrow.Author.Rules.{rules}
use lib.ListN.{length-set}
use Rattle.bits.specs.Packed.{put}
use Rattle.bits.proofs.PutParts.{put-byte-first}
use Rattle.bits.proofs.write.put_bits.Goals as goal

pub loop-left-init : goal.loop-left-init
loop-left-init c = (refl, search rules, refl, refl)

pub loop-left-preserved : goal.loop-left-preserved
loop-left-preserved c =
    let turn = c in
    let out = turn.loop-left.out in
    let place = turn.loop-left.place in
    let left = turn.loop-left.left in
    let m = c.bits_in_byte-m.result in (
      search rules,
      search rules,
      length-set out (place / 8) c.replaced_bits.result ∙ turn.loop-left.invariant.2,
      rw c.replaced_bits.ensures
          (put-byte-first out place turn.args.v left m (omega arith) (omega arith) (omega arith) ∙ turn.loop-left.invariant.3),
    )

pub returns : goal.returns
unfolding put
returns c =
    let none : c.loop-left.left ≡ 0 = omega arith in
    rw none at c.loop-left.invariant.3
