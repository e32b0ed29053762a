-- After each turn the rows of so many payloads stand at the front, and the state is the one before the next payload.
-- Assumes nothing.
use Prim.Native.Nat.{ℕ, ◌+◌, ◌*◌}
use mathlib.Core.Path.{◌≡◌, refl, ap, ◌∙◌}
use mathlib.Core.List.{List, [], ◌∷◌, ◌++◌}
use native.Mathlib.Nat.{zero-add}
use native.Mathlib.Omega.{arith}
use Rattle.bits.proofs.OverLaws.{Put, put-none, put_next, put_as}
use Rattle.image.specs.declared.Part.{Part}
use Rattle.image_outline.specs.Answers.{state_before}
use Rattle.image_outline.specs.Outline.{rows_of}
use Rattle.image_outline.proofs.OutlineLaws.{header-there, rows_more, state-more}
use Rattle.image_outline.proofs.fill_rows.Goals as goal

pub loop-k-init : goal.loop-k-init
unfolding state_before rows_of
loop-k-init c = (c.fresh-state.ensures, put-none c.args.rows.now 0)

pub known_part-part-requires : goal.known_part-part-requires
known_part-part-requires c =
    let a = c.args in
    let l = c.loop-k in
    let there = header-there a.image.now a.count a.index l.k c.requires.2 (omega arith) in
    ap (λ (p : Part). p.number) there

pub loop-k-preserved : goal.loop-k-preserved
loop-k-preserved c =
    let l = c.loop-k in
    let a = c.args in
    let pre = c.requires in
    let there = header-there a.image.now a.count a.index l.k pre.2 (omega arith) in
    let p = c.known_part-part.ensures.0 ∙ there in
    let s = a.image.now in
    let state : c.turn_of-turn.result.state ≡ state_before s (l.k + 1) = c.turn_of-turn.ensures.1
    ∙ rw (p, l.invariant.0) (state-more s a.count a.index l.k pre.2) in
    let row = rw (p, l.invariant.0) at c.turn_of-turn.ensures.0 in
    let t = c.turn_of-turn.result.row in
    let ys = t.number ∷ t.place ∷ t.first ∷ t.second ∷ t.bits ∷ [] in
    let placed : Put l.rows (0 + 5 * l.k) ys 5 c.put_row.new.rows = rw (zero-add (5 * l.k)) (c.put_row.ensures, refl) in
    let next = put_next a.rows.now 0 (rows_of s l.k) (5 * l.k) ys 5 l.invariant.1 placed (omega arith) in
    let more = ap (λ (z : List ℕ). rows_of s l.k ++ z) row ∙ rows_more s a.count a.index l.k pre.2 in
    (state, put_as a.rows.now 0 _ _ _ _ next more (omega arith))

pub returns : goal.returns
returns c =
    let l = c.loop-k in
    let e : l.k ≡ c.args.count = omega arith in
    rw e at l.invariant.1.0
