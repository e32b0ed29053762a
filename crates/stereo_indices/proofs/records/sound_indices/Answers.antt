-- What is known of the indices before i, and those from i on, give whether all are sound.
use mathlib.Core.Path.{◌≡◌, sym, ◌∙◌}
use native.Mathlib.Omega.{arith}
use borrow.Author.Rules.{rules}
use lib.ListN.{length, get_or}
use lib.IntN.{pos}
use mir.Syntax.{w8}
use mir.Val.{SFits}
use mir.ValLaws.{to_z-of_z}
use Rattle.stereo_indices.proofs.RecordLaws.{sound_more, sound-done}
use Rattle.stereo_indices.proofs.records.sound_indices.Goals as goal

pub loop-i-preserved : goal.loop-i-preserved
loop-i-preserved c =
    let l = c.loop-i in
    let long : length c.args.indices ≡ 34 = search rules in
    let e : SFits w8 (get_or c.args.indices l.i (pos 0)) = search rules in
    rw (c.sound_index-sound.ensures, to_z-of_z w8 _ e) (l.invariant ∙ sound_more _ _ l.i c.args.indices l.sound (omega arith))

pub returns : goal.returns
returns c =
    let l = c.loop-i in
    let long : length c.args.indices ≡ 34 = search rules in
    sym (l.invariant ∙ sound-done _ _ _ _ _ (omega arith))
