-- The payload's offset and the next one, pairs of bytes, are its range, which lies in the image.
-- Assumes nothing.
use Prim.Native.Nat.{◌+◌, ◌*◌, ◌≤◌}
use mathlib.Core.Path.{◌≡◌, sym, ◌∙◌}
use native.Mathlib.Omega.{arith}
use lib.ListN.{length}
use Rattle.image.specs.Image.{pair_at}
use Rattle.image.proofs.ImageLaws.{part-order, part-inside}
use Rattle.image.proofs.PartLaws.{part-is, part_sound}
use borrow.Author.Rules.{rules}
use Rattle.image.proofs.known_part.Goals as goal

pub overflow_mul-k : goal.overflow_mul-k
overflow_mul-k c =
    -- both of its offsets are there
    let offsets : 2 * c.args.k + 8 ≤ length c.args.image.now = let f = part_sound _ _ c.requires in omega (arith, f.0.pairs, f.1) in
    let l = offsets in search rules

pub overflow_add-k : goal.overflow_add-k
overflow_add-k c =
    -- both of its offsets are there
    let offsets : 2 * c.args.k + 8 ≤ length c.args.image.now = let f = part_sound _ _ c.requires in omega (arith, f.0.pairs, f.1) in
    let l = offsets in search rules

pub pair_at-requires : goal.pair_at-requires
pair_at-requires c =
    -- both of its offsets are there
    let offsets : 2 * c.args.k + 8 ≤ length c.args.image.now = let f = part_sound _ _ c.requires in omega (arith, f.0.pairs, f.1) in
    omega (arith, offsets)

pub overflow_mul-k-2 : goal.overflow_mul-k-2
overflow_mul-k-2 c =
    -- both of its offsets are there
    let offsets : 2 * c.args.k + 8 ≤ length c.args.image.now = let f = part_sound _ _ c.requires in omega (arith, f.0.pairs, f.1) in
    let l = offsets in search rules

pub overflow_add-k-2 : goal.overflow_add-k-2
overflow_add-k-2 c =
    -- both of its offsets are there
    let offsets : 2 * c.args.k + 8 ≤ length c.args.image.now = let f = part_sound _ _ c.requires in omega (arith, f.0.pairs, f.1) in
    let l = offsets in search rules

pub pair_at-requires-2 : goal.pair_at-requires-2
pair_at-requires-2 c =
    -- both of its offsets are there
    let offsets : 2 * c.args.k + 8 ≤ length c.args.image.now = let f = part_sound _ _ c.requires in omega (arith, f.0.pairs, f.1) in
    omega (arith, offsets)

pub returns : goal.returns
returns c =
    let entry = c in
    let x = entry.args in
    let s = x.image.now in
    let f = part_sound s x.k entry.requires in
    let q : 2 * (x.k + 1) + 4 ≡ 2 * x.k + 6 = omega arith in
    let a = c.pair_at.ensures.0 in
    let b : c.pair_at-2.result ≡ pair_at s (2 * (x.k + 1) + 4) = c.pair_at-2.ensures.0 ∙ rw q in (
      rw (a, b) (sym (part-is s x.k entry.requires)),
      rw (a, b) (part-order s f.0 x.k f.1),
      rw b (part-inside s f.0 x.k f.1),
      c.pair_at-2.ensures.1,
    )
