-- The reading laws of the lines: their parts have them, and the ways of putting readers together keep them.
-- Assumes nothing.
use Prim.Native.Nat.{ℕ}
use mathlib.Core.List.{List, [], ◌∷◌}
use lib.IntN.{ℤ}
use Rattle.bits.proofs.Lawful.{Lawful, bind_lawful, give-lawful, pick-lawful}
use Rattle.bits.proofs.FieldLaws.{field-lawful}
use Rattle.bits.proofs.LoopLaws.{counted-lawful}
use Rattle.words.proofs.EscapeLaws.{escape-lawful}
use Rattle.tables.proofs.Rules.{lawful-at}
use Rattle.channel_words.specs.Books.{Book}
use Rattle.channel_words.specs.Tuple.{spectral_word, value, escape_at, escaped, tuple}
use Rattle.channel_lines.specs.Spectrum.{band_word, band, windows_band, group_band, group_lines, spectrum}

ruleset laws = (bind_lawful, give-lawful, pick-lawful, field-lawful, counted-lawful)

spectral-lawful : (number : ℕ) → Lawful (spectral_word number)
unfolding spectral_word
spectral-lawful = lawful-at

value-lawful : (b : Book) (entry j : ℕ) (vs : List ℤ) → Lawful (value b entry j vs)
unfolding value
value-lawful b entry j vs = search laws depth 8

escaped-lawful : (j : ℕ) (vs : List ℤ) → Lawful (escaped j vs)
unfolding escaped escape_at
escaped-lawful j vs = search (laws, escape-lawful) depth 8

tuple-lawful : (b : Book) → Lawful (tuple b)
unfolding tuple
tuple-lawful b = search (laws, spectral-lawful, value-lawful, escaped-lawful) depth 8

band_word-lawful : (b : Book) (first t : ℕ) (lines : List ℤ) → Lawful (band_word b first t lines)
unfolding band_word
band_word-lawful b first t lines = search (laws, tuple-lawful) depth 8

band-lawful : (b : Book) (first width : ℕ) (lines : List ℤ) → Lawful (band b first width lines)
unfolding band
band-lawful b first width lines = search (laws, band_word-lawful) depth 8

group_band-lawful : (edges books : List ℕ) (base from n b : ℕ) (lines : List ℤ) → Lawful (group_band edges books base from n b lines)
unfolding group_band windows_band
group_band-lawful edges books base from n b lines = search (laws, band-lawful) depth 8

group_lines-lawful : (edges : List ℕ) (max_sfb : ℕ) (books ns : List ℕ) (base from : ℕ) (lines : List ℤ)
    → Lawful (group_lines edges max_sfb books ns base from lines)
unfolding group_lines
group_lines-lawful edges max_sfb books [] base from lines = give-lawful lines
group_lines-lawful edges max_sfb books (n ∷ ns) base from lines =
    let ih = group_lines-lawful edges max_sfb books ns in
    search (laws, group_band-lawful) depth 8

pub spectrum-lawful : (edges : List ℕ) (max_sfb : ℕ) (books groups : List ℕ) → Lawful (spectrum edges max_sfb books groups)
unfolding spectrum
spectrum-lawful edges max_sfb books groups = group_lines-lawful edges max_sfb books groups 0 0 _
