-- An end is below 2 ^ 32, so that no more bytes than 2 ^ 29 need be looked at.
use Prim.Native.Nat.{ℕ, ◌*◌, ◌<◌, min}
use mathlib.Core.Path.{◌≡◌, ap, ◌∙◌}
use native.Mathlib.Omega.{arith}
use native.Mathlib.Decide.{dec_le}
use lib.Dec.{leb}
use borrow.Author.Tests.{le-leb, lt-leb}
use Rattle.bench_words.proofs.is_inside.Goals as goal

near : (end size : ℕ) → end < 4294967296 → leb end (8 * min size 536870912) ≡ leb end (8 * size)
near end size h =
    elim (dec_le end (8 * size)) [
      | yes d ↦ rw (le-leb end (8 * size) d) (le-leb end (8 * min size 536870912) (omega arith))
      | no d ↦ rw (lt-leb end (8 * size) (omega (arith, d))) (lt-leb end (8 * min size 536870912) (omega (arith, d)))
    ]

pub returns : goal.returns
returns c =
    let x = c.args in
    ap (λ (n : ℕ). leb x.end (8 * n)) c.min.ensures ∙ near x.end x.size (omega arith)
