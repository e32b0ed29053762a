-- The scan goes entry by entry as the definition does, with one window of bits for all of them.
use mathlib.Core.Path.{refl, sym, ◌∙◌}
use native.Mathlib.Omega.{arith}
use borrow.Author.Rules.{rules}
use Rattle.words.specs.Words.{word}
use Rattle.bench_words.proofs.ScanLaws.{scan-short, scan-none, judged, turn-found, turn-cut, turn-neither}
use Rattle.bench_words.proofs.scan.read_word.Goals.{in-Cut, in-Neither}
use Rattle.bench_words.proofs.scan.read_word.Goals as goal

pub loop-i-init : goal.loop-i-init
unfolding word
loop-i-init c = refl

pub compare-requires : goal.compare-requires
compare-requires c =
    let narrow = c.requires.narrow c.loop-i.i c.loop-i-test.true in
    (omega arith, narrow)

pub enum_told-1 : goal.enum_told-1
enum_told-1 c = search rules

pub overflow_cast-result-in-Fits : goal.overflow_cast-result-in-Fits
overflow_cast-result-in-Fits c = omega (arith, c.requires.few)

pub overflow_add-result : goal.overflow_add-result
overflow_add-result c =
    let told = judged _ _ _ _ _ (c.requires.narrow c.loop-i.i c.loop-i-test.true) c.first_bits-w.ensures.0 c.first_bits-w.ensures.1
    c.compare.ensures in
    let w = turn-found _ c.args.lens.now _ _ _ c.loop-i.i c.loop-i.short (omega arith) c.loop-i-test.true told c.in-Fits.is in
    omega (arith, w.1)

pub returns-in-Fits : goal.returns-in-Fits
returns-in-Fits c =
    let told = judged _ _ _ _ _ (c.requires.narrow c.loop-i.i c.loop-i-test.true) c.first_bits-w.ensures.0 c.first_bits-w.ensures.1
    c.compare.ensures in
    (turn-found _ _ _ _ _ _ _ (omega arith) c.loop-i-test.true told c.in-Fits.is).0 ∙ sym c.loop-i.invariant

pub loop-i-preserved : goal.loop-i-preserved
loop-i-preserved c =
    let told = judged _ _ _ _ _ (c.requires.narrow c.loop-i.i c.loop-i-test.true) c.first_bits-w.ensures.0 c.first_bits-w.ensures.1
    c.compare.ensures in
    let e = c.loop-i.invariant in
    let l = c.loop-i-test.true in
    elim c.match-compare.branch [
      | in-Cut w ↦ rw w.short-is (e ∙ turn-cut _ _ _ _ _ _ _ (omega arith) l told w.in-Cut.is)
      | in-Neither w ↦ rw w.short-is (e ∙ turn-neither _ _ _ _ _ _ _ (omega arith) l told w.in-Neither.is)
    ]

pub returns-then-short : goal.returns-then-short
returns-then-short c =
    let l = c.loop-i in
    let x = c.args in
    rw c.refused.ensures
    (scan-short x.codes.now x.lens.now x.s.now.bytes.now x.at x.s.now.end l.i l.short c.if-short.true (omega arith) ∙ sym l.invariant)

pub returns : goal.returns
returns c =
    let l = c.loop-i in
    let x = c.args in
    rw c.refused-2.ensures
    (scan-none x.codes.now x.lens.now x.s.now.bytes.now x.at x.s.now.end l.i l.short c.if-short.false (omega arith) ∙ sym l.invariant)
