-- After i turns the words of the first i indices stand one after another.
use Rattle.stereo_writer.proofs.WroteLaws.{wrote_none, wrote_as, wrote_more}
use Rattle.stereo_writer.specs.Spelling.{spell_index}
use Rattle.stereo_indices.proofs.KindLaws.{table_is}
use lib.IntN.{pos}
use lib.ListN.{length}
use Prim.Native.Nat.{◌<◌}
use borrow.Author.Rules.{rules}
use native.Mathlib.Omega.{arith}
use mathlib.Core.Path.{◌≡◌}
use Rattle.stereo_writer.proofs.rows.put_indices.Goals as goal

pub loop-i-init : goal.loop-i-init
loop-i-init c = wrote_none

pub loop-i-preserved : goal.loop-i-preserved
loop-i-preserved c =
    let a = c.args in
    let l = c.loop-i in
    let long : length a.xs ≡ 34 = search rules in
    let inside : l.i < length a.xs = omega (arith, long) in
    let t = c.difference_table-table.ensures.0 in
    let put = wrote_as c.put_word.ensures (rw (t, table_is a.kind a.mode a.time, c.entry_at.ensures)) in
    wrote_more (spell_index a.kind a.mode a.time a.before) (pos 0) a.xs l.i inside l.invariant put
