-- Each test leaves the books that it names, whose words are all of one kind.
use mathlib.Core.Path.{◌≡◌, refl, ◌∙◌}
use native.Mathlib.Omega.{arith}
use borrow.Author.Tests.{ne_eqb}
use Rattle.channel_words.specs.Books.{books, book_of}
use Rattle.channel_words.proofs.BookLaws.{pair_is}
use Rattle.channel_lines.proofs.SpectrumLaws.{band-by, band-pairs, band-escaped}
use Rattle.channel_lines.proofs.lines.read_spectral_band.Goals as goal

pub returns-then-number-le2 : goal.returns-then-number-le2
unfolding books book_of
returns-then-number-le2 c =
    let a = c in
    let other : a.args.number ≡ 11 → ⊥ = λ e. omega arith in
    c.read_signed_quads.ensures
    ∙ band-by _ a.args.number _ _ _ _ _ _ a.requires.0.reads 4 3 1 (pair_is 1 refl refl (omega arith) (omega arith)) refl
    (ne_eqb _ _ other)

pub returns-then-number-le4 : goal.returns-then-number-le4
unfolding books book_of
returns-then-number-le4 c =
    let a = c in
    let other : a.args.number ≡ 11 → ⊥ = λ e. omega arith in
    c.read_unsigned_quads.ensures
    ∙ band-by _ a.args.number _ _ _ _ _ _ a.requires.0.reads 4 3 0 (pair_is 3 refl refl (omega arith) (omega arith)) refl
    (ne_eqb _ _ other)

pub returns-then-number-le6 : goal.returns-then-number-le6
unfolding books book_of
returns-then-number-le6 c =
    let a = c in
    let other : a.args.number ≡ 11 → ⊥ = λ e. omega arith in
    c.read_signed_pairs.ensures
    ∙ band-by _ a.args.number _ _ _ _ _ _ a.requires.0.reads 2 9 4 (pair_is 5 refl refl (omega arith) (omega arith)) refl
    (ne_eqb _ _ other)

pub returns-then-number-le8 : goal.returns-then-number-le8
unfolding books book_of
returns-then-number-le8 c =
    let a = c in
    let other : a.args.number ≡ 11 → ⊥ = λ e. omega arith in
    c.read_unsigned_pairs.ensures
    ∙ band-pairs _ a.args.number _ _ _ _ _ _ a.requires.0.reads 8 (omega arith) (omega arith) (pair_is 7 refl refl
    (omega arith) (omega arith))
    (ne_eqb _ _ other)

pub returns-then-number-le10 : goal.returns-then-number-le10
unfolding books book_of
returns-then-number-le10 c =
    let a = c in
    let other : a.args.number ≡ 11 → ⊥ = λ e. omega arith in
    c.read_unsigned_pairs-then-number-le10.ensures
    ∙ band-pairs _ a.args.number _ _ _ _ _ _ a.requires.0.reads 13 (omega arith) (omega arith) (pair_is 9 refl refl
    (omega arith) (omega arith))
    (ne_eqb _ _ other)

pub returns : goal.returns
returns c =
    let a = c in
    c.read_unsigned_pairs-2.ensures ∙ band-escaped _ a.args.number _ _ _ _ _ _ a.requires.0.reads (omega arith)
