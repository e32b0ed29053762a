-- The number's byte is put first; after each turn so many indices stand after it, and at the end both make one run of 35.
-- Assumes nothing.
use Prim.Native.Nat.{◌+◌}
use mathlib.Core.Path.{◌≡◌, ◌∙◌}
use mathlib.Core.List.{map}
use native.Mathlib.Omega.{arith}
use native.Mathlib.Numerals.{add-one}
use borrow.Author.Rules.{rules}
use lib.ListN.{length, set, get_or, length-set, length-map, get_or-map}
use lib.IntN.{pos}
use lib.Seq.{paste-zero, paste-suc}
use mir.Syntax.{w8}
use mir.Val.{of_z, SFits}
use mir.ValLaws.{to_z-of_z}
use Rattle.bits.specs.Bytes.{over}
use Rattle.c_layout.specs.Indices.{numbered}
use Rattle.bits.proofs.OverLaws.{pasted, put_one, put_next}
use Rattle.c_layout.proofs.indices.put_numbered.Goals as goal

pub loop-i-init : goal.loop-i-init
loop-i-init c =
    let a = c.args in
    paste-zero (set a.out.now a.at c.byte_of.result) (a.at + 1) (map (of_z w8) a.indices)

pub loop-i-preserved : goal.loop-i-preserved
loop-i-preserved c =
    let i = c.loop-i.i in
    let a = c.args in
    let t = set a.out.now a.at c.byte_of.result in
    let same : length t ≡ length a.out.now = length-set a.out.now a.at c.byte_of.result in
    let ys = map (of_z w8) a.indices in
    let long : length ys ≡ 34 = rw length-map (search rules) in
    let fits : SFits w8 (get_or a.indices i (pos 0)) = search rules in
    let v : c.index_byte.result ≡ get_or ys i 0 =
    rw (get_or-map (of_z w8) a.indices i (pos 0)) (rw (to_z-of_z w8 _ fits) at c.index_byte.ensures) in
    rw (v, c.loop-i.invariant, add-one i) (paste-suc t (a.at + 1) ys i 0 (omega arith) (omega arith))

pub returns : goal.returns
unfolding numbered
returns c =
    let a = c.args in
    let s = a.out.now in
    let t = set s a.at c.byte_of.result in
    let ys = map (of_z w8) a.indices in
    let long : length ys ≡ 34 = rw length-map (search rules) in
    let e : c.loop-i.i ≡ length ys = omega arith in
    let rest : c.loop-i.out ≡ over t (a.at + 1) ys = c.loop-i.invariant ∙ rw e (pasted t (a.at + 1) ys) in
    rw (← c.byte_of.ensures)
    (put_next s a.at _ 1 ys 34 (put_one s a.at c.byte_of.result (omega arith)) (rest, long) (omega arith))
