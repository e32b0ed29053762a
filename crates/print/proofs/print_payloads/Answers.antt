-- Each payload that is printed is one of the image's, and is printed from the state before it.
-- Assumes nothing.
use mathlib.Core.Path.{◌∙◌, ap}
use native.Mathlib.Omega.{arith}
use Rattle.image.specs.declared.Part.{Part}
use Rattle.image_outline.proofs.OutlineLaws.{header-there}
use Rattle.print.proofs.StateLaws.{state-first, state-next}
use Rattle.print.proofs.print_payloads.Goals as goal

pub loop-k-init : goal.loop-k-init
loop-k-init g c = c.fresh-state.ensures ∙ state-first c.args.full c.args.image.now

pub print_payload-requires : goal.print_payload-requires
print_payload-requires g c =
    let a = c.args in
    let l = c.loop-k in
    let there = header-there a.image.now a.count a.index l.k c.requires.2 c.loop-k-test.true in
    (omega arith, c.requires.1, ap (λ (p : Part). p.number) there, l.invariant)

pub loop-k-preserved : goal.loop-k-preserved
loop-k-preserved g c =
    let a = c.args in
    let l = c.loop-k in
    c.in_ok-state.ensures ∙ rw l.invariant (state-next a.full a.image.now a.count a.index l.k c.requires.2)
