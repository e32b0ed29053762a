-- The scan goes entry by entry as the definition does, with one window of bits for all of them.
use mathlib.Core.Path.{◌≡◌}
use lib.ListN.{drop}
use Rattle.bits.specs.InnerAnswers.{reads}
use Rattle.words.specs.Words.{scan, word}
use Rattle.bench_words.proofs.scan.read_word.Given as goal

abbrev pub invariant-loop-i : goal.invariant-loop-i
invariant-loop-i l = reads (word l.codes l.lens) l.s l.at ≡ reads (scan (drop l.i l.codes) (drop l.i l.lens) l.i l.short) l.s l.at
