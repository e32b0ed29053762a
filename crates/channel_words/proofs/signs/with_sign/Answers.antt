-- A magnitude of at most 8191 fits with either sign.
use Prim.Native.Nat.{◌<◌, ◌^◌}
use mathlib.Core.Path.{◌≡◌, ◌∙◌}
use native.Mathlib.Omega.{arith}
use lib.IntN.{pos, +ℤ_idl}
use mir.Syntax.{w16}
use mir.Val.{to_z}
use mir.ValLaws.{to_z-of_z, to_z_pos}
use borrow.Author.Tests.{eq-eqb, ne_eqb}
use Rattle.channel_words.specs.Tuple.{signed}
use Rattle.bits.proofs.Signed.{fits, abs_neg}
use Rattle.channel_words.proofs.signs.with_sign.Goals as goal

pub overflow_sub-result : goal.overflow_sub-result
overflow_sub-result c =
    -- in 16 bits the magnitude is what it is
    let whole : to_z w16 c.args.m ≡ pos c.args.m = let h : c.args.m < 2 ^ 15 = omega arith in to_z_pos w16 c.args.m h in
    rw (whole, +ℤ_idl) (fits 8191 (rw abs_neg c.requires) (omega arith))

pub returns-then-sign-eq1 : goal.returns-then-sign-eq1
unfolding signed
returns-then-sign-eq1 c =
    -- in 16 bits the magnitude is what it is
    let whole : to_z w16 c.args.m ≡ pos c.args.m = let h : c.args.m < 2 ^ 15 = omega arith in to_z_pos w16 c.args.m h in
    to_z-of_z w16 _ (overflow_sub-result c) ∙ rw (whole, eq-eqb _ _ c.if-sign-eq1.true) (+ℤ_idl _)

pub returns : goal.returns
unfolding signed
returns c =
    -- in 16 bits the magnitude is what it is
    let whole : to_z w16 c.args.m ≡ pos c.args.m = let h : c.args.m < 2 ^ 15 = omega arith in to_z_pos w16 c.args.m h in
    rw (whole, ne_eqb _ _ c.if-sign-eq1.false)
