-- The reference is the record's index across time, else the one before, or 0 for the first.
use lib.Seq.{get_or-take, length-take-le}
use Prim.Native.Nat.{◌-◌}
use Rattle.stereo_indices.specs.Indices.{reference}
use mir.ValLaws.{to_z-of_z}
use mir.Val.{SFits}
use mir.Syntax.{w8}
use lib.IntN.{pos}
use lib.ListN.{take, get_or, length}
use borrow.Author.Tests.{eq-eqb, ne_eqb}
use native.Mathlib.Omega.{arith}
use mathlib.Core.Path.{◌≡◌}
use borrow.Author.Rules.{rules}
use Rattle.stereo_writer.proofs.rows.reference.Goals as goal

pub returns-then-time-eq1 : goal.returns-then-time-eq1
unfolding reference
returns-then-time-eq1 c =
    let a = c.args in
    let n : length a.xs ≡ 34 = search rules in
    let l : length (take a.i a.xs) ≡ a.i = length-take-le a.i a.xs (omega arith) in
    let f : SFits w8 (get_or a.before a.i (pos 0)) = search rules in
    rw (to_z-of_z w8 _ f, eq-eqb _ _ c.if-time-eq1.true, l)

pub returns-then-i-eq0 : goal.returns-then-i-eq0
unfolding reference
returns-then-i-eq0 c = rw (ne_eqb _ _ c.if-time-eq1.false, c.if-i-eq0.true)

pub returns : goal.returns
unfolding reference
returns c =
    let a = c.args in
    let n : length a.xs ≡ 34 = search rules in
    let l : length (take a.i a.xs) ≡ a.i = length-take-le a.i a.xs (omega arith) in
    let f : SFits w8 (get_or a.xs (a.i - 1) (pos 0)) = search rules in
    let s = get_or-take a.i a.xs (a.i - 1) (pos 0) (omega arith) in
    rw (to_z-of_z w8 _ f, ne_eqb _ _ c.if-time-eq1.false, l, s)
