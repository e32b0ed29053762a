-- The pieces are put into the scratch array from its first bit on, and read back from there.
use Rattle.stereo_writer.proofs.WritingLaws.{spelled-can}
use Rattle.stereo_writer.specs.Spelling.{spelling}
use Rattle.bits.specs.Pieces.{total}
use Rattle.bits.specs.Packed.{put_all}
use lib.ListN.{replicate}
use Prim.Native.Nat.{◌≤◌}
use native.Mathlib.Omega.{arith}
use mathlib.Core.Path.{◌≡◌, ◌∙◌}
use Rattle.stereo_writer.proofs.writing.spell.Goals as goal

pub returns : goal.returns
returns c =
    let a = c.args in
    let p = c.put_spelled.ensures in
    let w = c.put_spelled.new.w in
    let h : w.bytes ≡ put_all (replicate 1536 0) 0 (spelling a.state a.contents.now) = p.holds ∙ rw (c.requires.0, c.requires.1) in
    let n : w.at ≡ total (spelling a.state a.contents.now) = omega (arith, p.ends, c.requires.1) in
    let m : w.at ≤ 10952 = omega (arith, p.ends, p.short, c.requires.1) in
    (n, m, c.is_read_back.ensures ∙ spelled-can a.state a.contents.now h n m, h)
