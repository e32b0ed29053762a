-- The part is filled with as many copies as it has places.
use Prim.Native.Nat.{◌+◌, ◌-◌}
use mathlib.Core.Path.{◌≡◌, sym, ◌∙◌}
use native.Mathlib.Omega.{arith}
use lib.ListN.{length, replicate, length-replicate, drop}
use borrow.Rule.Slice.PartMut.{mid_of}
use Rattle.std.proofs.lemmas.List.{length-take-le, length-drop}
use Rattle.bits.proofs.OverLaws.{over_parts}
use Rattle.channel_side.proofs.SectionLaws.{filled}
use Rattle.channel_side.proofs.sections.fill_books.Goals as goal

pub returns : goal.returns
returns c =
    let x = c.args in
    let n : x.from + x.n - x.from ≡ x.n = omega arith in
    let size : length (mid_of x.from x.n x.books.now) ≡ x.n =
    length-take-le x.n (drop x.from x.books.now) (rw (length-drop x.from x.books.now) (omega arith)) in
    let e = rw (n, size) at (c.fill.ensures.after (λ y h. h)) in
    let r = over_parts x.books.now x.from (replicate x.n x.book) in
    rw (n, e) (sym (rw (length-replicate x.n x.book) at r) ∙ filled x.books.now x.from x.n x.book (omega arith))
