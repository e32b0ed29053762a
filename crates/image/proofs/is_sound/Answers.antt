-- A test that fails denies a fact that sound images have; past the first offset's test the order and the last offset decide.
use Prim.Native.Nat.{◌+◌, ◌*◌, ◌%◌}
use native.Mathlib.Omega.{arith}
use mathlib.Core.Path.{◌≡◌}
use mathlib.Core.Bool.{◌&&◌}
use borrow.Author.Tests.{le-leb, eq-eqb}
use lib.Dec.{eqb}
use lib.ListN.{length}
use Rattle.image.specs.Image.{offset_of, rising, sound_image}
use Rattle.image.proofs.ImageLaws.{Sound, unsound}
use Rattle.image.proofs.is_sound.Goals as goal

pub returns-then-size-gt65535 : goal.returns-then-size-gt65535
returns-then-size-gt65535 c = unsound _ (λ (f : Sound _). omega arith)

pub returns-then-size-lt6 : goal.returns-then-size-lt6
returns-then-size-lt6 c = unsound _ (λ (f : Sound _). omega arith)

pub returns-then-count-ne0 : goal.returns-then-count-ne0
returns-then-count-ne0 c = unsound _ (λ (f : Sound _). omega arith)

pub returns-then-count-gt1024 : goal.returns-then-count-gt1024
returns-then-count-gt1024 c = unsound _ (λ (f : Sound _). omega arith)

pub returns-then-size-count : goal.returns-then-size-count
returns-then-size-count c = unsound _ (λ (f : Sound _). omega arith)

pub returns-then-pair_at-count : goal.returns-then-pair_at-count
returns-then-pair_at-count c = unsound _ (λ (f : Sound _). omega arith)

pub returns-then-not-is_rising : goal.returns-then-not-is_rising
unfolding sound_image
returns-then-not-is_rising c =
    -- past the first offset's test, whether the offsets rise and what the last one is decide
    let others : sound_image ((c.args.image.now))
    ≡ (rising ((c.args.image.now)) 0 ((c.pair_at-count.result)) && eqb (offset_of ((c.args.image.now)) ((c.pair_at-count.result)))
    (length ((c.args.image.now)))) = let s = (c.args.image.now) in
    let first = c.pair_at in
    rw (
      ← c.pair_at-count.ensures.0,
      le-leb (length s) 65535 (omega arith),
      le-leb 6 (length s) (omega arith),
      eq-eqb ((c.pair_at-count.result) % 2) 0 (omega arith),
      le-leb ((c.pair_at-count.result)) 1024 (omega arith),
      le-leb (2 * (c.pair_at-count.result) + 6) (length s) (omega arith),
      ← first.ensures.0,
      eq-eqb first.result (2 * (c.pair_at-count.result) + 6) (omega arith),
    ) in
    rw (others, ← c.is_rising.ensures, c.if-not-is_rising.true)

pub returns : goal.returns
unfolding sound_image
returns c =
    -- past the first offset's test, whether the offsets rise and what the last one is decide
    let others : sound_image ((c.args.image.now))
    ≡ (rising ((c.args.image.now)) 0 ((c.pair_at-count.result)) && eqb (offset_of ((c.args.image.now)) ((c.pair_at-count.result)))
    (length ((c.args.image.now)))) = let s = (c.args.image.now) in
    let first = c.pair_at in
    rw (
      ← c.pair_at-count.ensures.0,
      le-leb (length s) 65535 (omega arith),
      le-leb 6 (length s) (omega arith),
      eq-eqb ((c.pair_at-count.result) % 2) 0 (omega arith),
      le-leb ((c.pair_at-count.result)) 1024 (omega arith),
      le-leb (2 * (c.pair_at-count.result) + 6) (length s) (omega arith),
      ← first.ensures.0,
      eq-eqb first.result (2 * (c.pair_at-count.result) + 6) (omega arith),
    ) in
    let rises = c.is_rising in
    let rise = c.if-not-is_rising.false in
    rw (others, ← rises.ensures, rise, ← c.pair_at-2.ensures.0)
