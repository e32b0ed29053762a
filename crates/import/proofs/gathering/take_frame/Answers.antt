-- What was judged of a frame that is taken gives its stream a place in the image, and a number of 16 bits for its end.
-- Assumes nothing.
use mathlib.Core.Path.{◌≡◌, refl}
use native.Mathlib.Omega.{arith}
use lib.ListN.{length}
use borrow.Author.Rules.{rules}
use Rattle.import.proofs.gathering.take_frame.Goals as goal

pub bounds-image-last : goal.bounds-image-last
bounds-image-last g c =
    let facts = c.in_ok-judge.ensures in
    let long : length c.unwrap_at-f.new.image ≡ length c.args.image.now = search rules in
    omega (arith, facts.0, facts.1, c.bytes_for.ensures, long, c.requires.1)

pub overflow_cast-ends : goal.overflow_cast-ends
overflow_cast-ends g c =
    let facts = c.in_ok-judge.ensures in
    omega (arith, facts.1, c.bytes_for.ensures)

pub bounds-ends-g : goal.bounds-ends-g
bounds-ends-g g c =
    let facts = c.in_ok-judge.ensures in
    omega (arith, facts.0, c.requires.2)

pub overflow_add-gathered-2 : goal.overflow_add-gathered-2
overflow_add-gathered-2 g c =
    let facts = c.in_ok-judge.ensures in
    let short = c.unwrap_at-f.ensures.0 in
    omega (arith, facts.0, short, c.requires.0, c.requires.3.0, c.requires.3.1)

pub returns : goal.returns
returns g c =
    let facts = c.in_ok-judge.ensures in
    let n = c.bytes_for.ensures in
    let short = c.unwrap_at-f.ensures.0 in
    ((omega (arith, facts.0), omega (arith, short, c.requires.0, c.requires.3.1), omega (arith, facts.1, n)), short, refl)
