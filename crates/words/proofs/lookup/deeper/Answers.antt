-- Two links at most, each by the definition's step.
use Prim.Native.Nat.{◌+◌, ◌-◌, ◌/◌}
use mathlib.Core.Path.{◌∙◌, ap}
use native.Mathlib.Omega.{arith}
use Rattle.words.specs.InnerLookup.{leads_to, next_element}
use Rattle.words.proofs.LookupSteps.{lead_leaf, lead_link, lead_none, next-over}
use Rattle.words.proofs.lookup.deeper.Goals as goal

pub returns-then-next-lt16384 : goal.returns-then-next-lt16384
returns-then-next-lt16384 c =
    let x = c.args in
    let n = c.next_element-next in
    let d = x.d + (x.link / 2048 - 8) in (
      lead_leaf 0 x.look.now x.w d n.result c.if-next-lt16384.true
          ∙ ap (leads_to 1 x.look.now x.w d) n.ensures.0 ∙ lead_link 1 x.look.now x.w x.d x.link (omega arith),
      n.ensures.1,
    )

pub returns-then-behind-gt24 : goal.returns-then-behind-gt24
returns-then-behind-gt24 c =
    let x = c.args in
    let n = c.next_element-next in
    let d = x.d + (x.link / 2048 - 8) in (
      next-over x.look.now x.w d n.result (omega arith)
          ∙ lead_none x.look.now x.w (d + (n.result / 2048 - 8)) (next_element x.look.now x.w d n.result)
          ∙ lead_link 0 x.look.now x.w d n.result (omega arith)
          ∙ ap (leads_to 1 x.look.now x.w d) n.ensures.0 ∙ lead_link 1 x.look.now x.w x.d x.link (omega arith),
      omega arith,
    )

pub returns : goal.returns
returns c =
    let x = c.args in
    let n = c.next_element-next in
    let d = x.d + (x.link / 2048 - 8) in (
      c.next_element.ensures.0
          ∙ lead_none x.look.now x.w (d + (n.result / 2048 - 8)) (next_element x.look.now x.w d n.result)
          ∙ lead_link 0 x.look.now x.w d n.result (omega arith)
          ∙ ap (leads_to 1 x.look.now x.w d) n.ensures.0 ∙ lead_link 1 x.look.now x.w x.d x.link (omega arith),
      c.next_element.ensures.1,
    )
