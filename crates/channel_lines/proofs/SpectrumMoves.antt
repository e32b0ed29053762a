-- Lines that are accepted at one place are accepted wherever their bits stand: their parts are, and the ways of putting readers together
-- keep this.
-- Assumes nothing.
use Prim.Native.Nat.{ℕ}
use mathlib.Core.List.{List, [], ◌∷◌}
use lib.IntN.{ℤ}
use Rattle.bits.proofs.Moves.{Moves, bind_moves, give-moves, pick-moved, field-moves, counted-moves}
use Rattle.words.proofs.WordMoves.{escape-moves}
use Rattle.tables.proofs.TableMoves.{moves-at}
use Rattle.channel_words.specs.Books.{Book}
use Rattle.channel_words.specs.Tuple.{spectral_word, value, escape_at, escaped, tuple}
use Rattle.channel_lines.specs.Spectrum.{band_word, band, windows_band, group_band, group_lines, spectrum}

ruleset laws = (bind_moves, give-moves, pick-moved, field-moves, counted-moves)

spectral-moves : (number : ℕ) → Moves (spectral_word number)
unfolding spectral_word
spectral-moves = moves-at

value-moves : (b : Book) (entry j : ℕ) (vs : List ℤ) → Moves (value b entry j vs)
unfolding value
value-moves b entry j vs = search laws depth 8

escaped-moves : (j : ℕ) (vs : List ℤ) → Moves (escaped j vs)
unfolding escaped escape_at
escaped-moves j vs = search (laws, escape-moves) depth 8

tuple-moves : (b : Book) → Moves (tuple b)
unfolding tuple
tuple-moves b = search (laws, spectral-moves, value-moves, escaped-moves) depth 8

band_word-moves : (b : Book) (first t : ℕ) (lines : List ℤ) → Moves (band_word b first t lines)
unfolding band_word
band_word-moves b first t lines = search (laws, tuple-moves) depth 8

band-moves : (b : Book) (first width : ℕ) (lines : List ℤ) → Moves (band b first width lines)
unfolding band
band-moves b first width lines = search (laws, band_word-moves) depth 8

group_band-moves : (edges books : List ℕ) (base from n b : ℕ) (lines : List ℤ) → Moves (group_band edges books base from n b lines)
unfolding group_band windows_band
group_band-moves edges books base from n b lines = search (laws, band-moves) depth 8

group_lines-moves : (edges : List ℕ) (max_sfb : ℕ) (books ns : List ℕ) (base from : ℕ) (lines : List ℤ)
    → Moves (group_lines edges max_sfb books ns base from lines)
unfolding group_lines
group_lines-moves edges max_sfb books [] base from lines = give-moves lines
group_lines-moves edges max_sfb books (n ∷ ns) base from lines =
    let ih = group_lines-moves edges max_sfb books ns in
    search (laws, group_band-moves) depth 8

pub spectrum-moves : (edges : List ℕ) (max_sfb : ℕ) (books groups : List ℕ) → Moves (spectrum edges max_sfb books groups)
unfolding spectrum
spectrum-moves edges max_sfb books groups = group_lines-moves edges max_sfb books groups 0 0 _
