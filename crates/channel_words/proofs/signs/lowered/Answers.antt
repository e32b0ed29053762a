-- Both numbers are small, and so is their difference.
use Prim.Native.Nat.{◌<◌, ◌^◌}
use mathlib.Core.Path.{◌≡◌, ◌∙◌}
use native.Mathlib.Omega.{arith}
use lib.IntN.{pos, neg_ℤ}
use mir.Syntax.{w16}
use mir.Val.{to_z}
use mir.ValLaws.{to_z-of_z, to_z_pos}
use Rattle.bits.proofs.Signed.{fits, abs_add, abs_neg}
use Rattle.channel_words.proofs.signs.lowered.Goals as goal

pub overflow_sub-result : goal.overflow_sub-result
overflow_sub-result c =
    let number : to_z w16 c.args.d ≡ pos c.args.d = let h : c.args.d < 2 ^ 15 = omega arith in to_z_pos w16 c.args.d h in
    let offset : to_z w16 c.args.offset ≡ pos c.args.offset = let h : c.args.offset < 2 ^ 15 = omega arith in
    to_z_pos w16 c.args.offset h in
    rw (number, offset)
    (fits 20 (abs_add (pos c.args.d) (neg_ℤ (pos c.args.offset)) 16 4 c.requires.0 (rw abs_neg c.requires.1)) (omega arith))

pub returns : goal.returns
returns c =
    let number : to_z w16 c.args.d ≡ pos c.args.d = let h : c.args.d < 2 ^ 15 = omega arith in to_z_pos w16 c.args.d h in
    let offset : to_z w16 c.args.offset ≡ pos c.args.offset = let h : c.args.offset < 2 ^ 15 = omega arith in
    to_z_pos w16 c.args.offset h in
    to_z-of_z w16 _ (overflow_sub-result c) ∙ rw (number, offset)
