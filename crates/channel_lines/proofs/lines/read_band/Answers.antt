-- A book that is not spectral sends nothing; the lookup of a spectral one reads its words.
use Prim.Native.Nat.{◌≤◌}
use native.Mathlib.Omega.{arith}
use Rattle.channel_words.proofs.BookLaws.{no_book, past_books, book-lookup}
use Rattle.channel_lines.proofs.SpectrumLaws.{band-silent}
use Rattle.channel_lines.proofs.lines.read_band.Goals as goal

pub returns-then-number-eq0 : goal.returns-then-number-eq0
returns-then-number-eq0 c = band-silent _ _ _ _ _ _ _ (no_book c.if-number-eq0.true)

pub returns-then-number-gt11 : goal.returns-then-number-gt11
returns-then-number-gt11 c = band-silent _ _ _ _ _ _ _ (past_books _ c.if-number-gt11.true)

pub read_spectral_band-requires : goal.read_spectral_band-requires
read_spectral_band-requires c =
    let low : 1 ≤ c.args.number = omega arith in
    let high : c.args.number ≤ 11 = omega arith in
    let lent = c.args.lookups.now.lent c.args.number (omega arith) (omega arith) in
    (book-lookup c.args.number low high lent c.of-lookup.ensures.0, low, high, c.requires)
