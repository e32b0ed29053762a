-- The word is the definition's, its entry is at most 60, so the sum goes through 16 bits unchanged and the test is the definition's;
-- a sum in the range fits a byte.
use native.Mathlib.Omega.{arith}
use mathlib.Core.Path.{◌≡◌, ◌∙◌, sym}
use borrow.Author.Rules.{rules}
use mir.Syntax.{w8}
use Rattle.bits.specs.Reader.{refused}
use Rattle.bits.specs.InnerAnswers.{answer_of}
use Rattle.bits.proofs.Signed.{fits, thru}
use Rattle.stereo_indices.proofs.KindLaws.{entry_le, in_range_abs}
use Rattle.stereo_indices.proofs.IndexLaws.{difference-is, index-got, index-outside, index-refused, wide_sum, judged}
use Rattle.stereo_indices.proofs.steps.read_index.Goals as goal

pub returns-in_err-entry : goal.returns-in_err-entry
returns-in_err-entry c =
    let e : answer_of c.from_residual.result ≡ refused c.in_err-entry.field-0.0.number c.in_err-entry.field-0.0.place = search rules in
    let d = c.difference_table-table in
    e ∙ index-refused _ _ _ _ _ _ _ _ _ (difference-is _ _ _ _ _ _ d.result d.ensures.0 (sym c.in_err-entry.ensures))

pub added-index-requires : goal.added-index-requires
added-index-requires c =
    let d = c.difference_table-table in
    entry_le d.result _ _ _ _ _ d.ensures.1 d.ensures.2 (sym c.in_ok-entry.ensures)

pub returns-then-not-within : goal.returns-then-not-within
returns-then-not-within c =
    let d = c.difference_table-table in
    let word = difference-is _ _ _ _ _ _ d.result d.ensures.0 (sym c.in_ok-entry.ensures) in
    let small = entry_le d.result _ _ _ _ _ d.ensures.1 d.ensures.2 (sym c.in_ok-entry.ensures) in
    let test = judged _ _ _ _ small c.ranges.from _ c.added-index.ensures c.least.ensures c.most.ensures c.within.ensures in
    rw c.refused.ensures (index-outside _ _ _ _ _ _ _ _ _ word (sym test ∙ c.if-not-within.true))

pub overflow_cast-result : goal.overflow_cast-result
overflow_cast-result c =
    let d = c.difference_table-table in
    let small = entry_le d.result _ _ _ _ _ d.ensures.1 d.ensures.2 (sym c.in_ok-entry.ensures) in
    let test = judged _ _ _ _ small c.ranges.from _ c.added-index.ensures c.least.ensures c.most.ensures c.within.ensures in
    let within = in_range_abs _ _ _ (sym test ∙ c.if-not-within.false) in
    rw (wide_sum _ _ _ _ small c.ranges.from _ c.added-index.ensures) (fits 15 within (omega arith))

pub returns : goal.returns
returns c =
    let d = c.difference_table-table in
    let word = difference-is _ _ _ _ _ _ d.result d.ensures.0 (sym c.in_ok-entry.ensures) in
    let small = entry_le d.result _ _ _ _ _ d.ensures.1 d.ensures.2 (sym c.in_ok-entry.ensures) in
    let test = judged _ _ _ _ small c.ranges.from _ c.added-index.ensures c.least.ensures c.most.ensures c.within.ensures in
    let within = in_range_abs _ _ _ (sym test ∙ c.if-not-within.false) in
    rw (wide_sum _ _ _ _ small c.ranges.from _ c.added-index.ensures, thru w8 15 within (omega arith))
    (index-got _ _ _ _ _ _ _ _ _ word (sym test ∙ c.if-not-within.false))
