-- The first k bits of the window choose an element that is there; a link leads on.
use Prim.Native.Nat.{◌+◌, ◌-◌, ◌^◌, ◌<◌}
use mathlib.Core.Path.{◌≡◌, ◌∙◌, ap}
use native.Mathlib.Omega.{arith}
use lib.Pow.{shr_le, shr_lt}
use Rattle.words.specs.InnerLookup.{leads_to, leaf_of}
use Rattle.words.proofs.LookupSteps.{lead_leaf}
use Rattle.words.proofs.lookup.leaf.Goals as goal

pub overflow_cast-w : goal.overflow_cast-w
overflow_cast-w c = omega (arith, shr_le c.args.w (24 - c.args.k))

pub element-first-requires : goal.element-first-requires
element-first-requires c =
    let a = c in
    let k = a.args.k in
    let e : k + (24 - k) ≡ 24 = omega arith in
    let h : a.args.w < 2 ^ (k + (24 - k)) = rw e a.requires.2 in
    omega (arith, shr_lt k (24 - k) h)

pub returns-then-first-lt16384 : goal.returns-then-first-lt16384
unfolding leaf_of
returns-then-first-lt16384 c =
    let x = c.args in
    let n = c.element-first in (
      lead_leaf 1 x.look.now x.w x.k n.result c.if-first-lt16384.true
          ∙ ap (leads_to 2 x.look.now x.w x.k) n.ensures.0,
      n.ensures.1,
    )

pub returns : goal.returns
unfolding leaf_of
returns c =
    let x = c.args in
    let n = c.element-first in
    (c.deeper.ensures.0 ∙ ap (leads_to 2 x.look.now x.w x.k) n.ensures.0, c.deeper.ensures.1)
