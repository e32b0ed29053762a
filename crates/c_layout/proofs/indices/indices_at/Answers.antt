-- So many bytes are turned into indices after each turn.
-- Assumes nothing.
use Prim.Native.Nat.{◌<◌}
use mathlib.Core.Path.{◌≡◌, refl, sym, ◌∙◌}
use mathlib.Core.List.{map-append}
use native.Mathlib.Omega.{arith}
use native.Mathlib.Numerals.{add-one}
use lib.ListN.{length, drop, get_or, length-set, length-drop}
use lib.Seq.{take-suc, take-suc-set, get_or-drop, take_all}
use mir.Syntax.{w8}
use mir.Val.{to_z, of_z}
use mir.ValLaws.{to_z-of_z}
use Rattle.c_layout.specs.Indices.{indices_at}
use Rattle.c_layout.proofs.indices.indices_at.Goals as goal

pub loop-i-init : goal.loop-i-init
loop-i-init c = (refl, refl)

pub loop-i-preserved : goal.loop-i-preserved
loop-i-preserved c =
    let s = c in
    let l = c.loop-i in
    let d = drop s.args.at s.args.s.now in
    let h : l.i < length d = rw length-drop (omega arith) in
    let v : to_z w8 (of_z w8 c.index_of.result) ≡ to_z w8 (get_or d l.i 0) =
    to_z-of_z w8 _ (record { sfits = c.index_of.type_inv }) ∙ c.index_of.ensures ∙ rw (get_or-drop s.args.at s.args.s.now l.i 0) in
    let more = take-suc-set l.out l.i (to_z w8 (get_or d l.i 0)) (omega arith) in
    (simp length-set l.invariant.0, rw (v, add-one, more, take-suc d l.i 0 h, map-append, l.invariant.1))

pub returns : goal.returns
unfolding indices_at
returns c =
    let l = c.loop-i in
    let e : l.i ≡ 34 = omega arith in
    sym (take_all 34 l.out (omega arith)) ∙ rw e at l.invariant.1
