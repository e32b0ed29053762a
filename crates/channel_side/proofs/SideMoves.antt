-- Window information, sections, scale factors and pulses that are accepted at one place are accepted wherever their bits stand. Pulses hold
-- their places: moved, they have other places, and the lines that they change are the same.
-- Assumes nothing.
use Prim.Native.Nat.{ℕ, ◌+◌, ◌<◌}
use mathlib.Core.Path.{◌≡◌, refl, sym, ap, subst}
use mathlib.Core.List.{List, [], ◌∷◌}
use mathlib.Core.Bool.{Bool, true, false}
use lib.Dec.{leb, eqb}
use lib.ListN.{set, replicate}
use lib.IntN.{ℤ, nat_abs}
use Rattle.bits.specs.Reader.{got, refused, pick}
use Rattle.bits.proofs.Lawful.{never, same-value}
use Rattle.bits.proofs.Moves.{Moved, Moves, still_moved, give-moved, give-moves, here-moved, field-moves, expecting-moves, zero_bit-moves}
use Rattle.bits.proofs.Moves.{pick-moved, bind_moved, then_moved, bind_moves, counted-moved, counted-moves, while-moves}
use Rattle.tables.specs.Tables.{word_of}
use Rattle.tables.specs.GeneratedNames.{scale_factor}
use Rattle.tables.proofs.TableMoves.{moves-at}
use Rattle.channel_side.specs.Window.{Window, is_short, window_sequence, max_sfb_of, grouping_of, window_bands, window}
use Rattle.channel_side.specs.Sections.{Length, increment, section_length, section_book, Covered, section, group_sections}
use Rattle.channel_side.specs.Sections.{group_books, sections}
use Rattle.channel_side.specs.Factors.{Factors, factor, band_factor, first_factors, scale_factors}
use Rattle.channel_side.specs.Pulses.{Laid, Pulses, none_laid, all_laid, pulse, each_pulse, start_band, pulse_data, no_pulses, pulses}
use Rattle.channel_side.specs.Pulses.{changed, apply_pulse, apply_pulses}
use Rattle.channel_side.proofs.SectionLaws.{increment-takes, section-takes}
use Rattle.channel_side.proofs.SideLawful.{width-pos, changed-at}

ruleset laws = (bind_moves, give-moves, pick-moved, expecting-moves, field-moves, zero_bit-moves, counted-moves)

max_sfb_of-moves : (index : ℕ) (short : Bool) → Moves (max_sfb_of index short)
unfolding max_sfb_of
max_sfb_of-moves index short = search laws depth 8

grouping_of-moves : (short : Bool) → Moves (grouping_of short)
unfolding grouping_of
grouping_of-moves short = search laws depth 8

pub window-moves : (index : ℕ) → Moves (window index)
unfolding window window_sequence window_bands
window-moves index = search (laws, max_sfb_of-moves, grouping_of-moves) depth 12

module _ (width : ℕ) (h : 0 < width) where
  increment-moves : (room : ℕ) (x : Length) → Moves (increment width room x)
  unfolding increment
  increment-moves room x = search laws depth 8

  length-moves : (room : ℕ) → Moves (section_length width room)
  unfolding section_length
  length-moves room = bind_moves _ _ (while-moves _ _ (increment-takes width room h) (increment-moves room) _) (λ x. give-moves _)

  section-moves : (max_sfb base : ℕ) (x : Covered) → Moves (section width max_sfb base x)
  unfolding section section_book
  section-moves max_sfb base x = search (laws, length-moves) depth 8

  group-moves : (max_sfb base : ℕ) (books : List ℕ) → Moves (group_sections width max_sfb base books)
  unfolding group_sections
  group-moves max_sfb base books =
      bind_moves _ _ (while-moves _ _ (section-takes width max_sfb base h) (section-moves max_sfb base) _) (λ x. give-moves _)

  groups-moves : (max_sfb : ℕ) (ns : List ℕ) (base : ℕ) (books : List ℕ) → Moves (group_books width max_sfb ns base books)
  unfolding group_books
  groups-moves max_sfb [] base books = give-moves books
  groups-moves max_sfb (n ∷ ns) base books = bind_moves _ _ (group-moves max_sfb base books) (groups-moves max_sfb ns _)

pub sections-moves : (w : Window) → Moves (sections w)
unfolding sections
sections-moves w = groups-moves _ (width-pos (is_short w)) _ _ _ _

word-moves : Moves (word_of scale_factor)
word-moves = moves-at 0

factor-moves : (books : List ℕ) (i : ℕ) (x : Factors) → Moves (band_factor books i x)
unfolding band_factor factor
factor-moves books i x = search (laws, word-moves) depth 8

pub factors-moves : (gain : ℕ) (w : Window) (books : List ℕ) → Moves (scale_factors gain w books)
unfolding scale_factors first_factors
factors-moves gain w books = search (laws, factor-moves) depth 8

-- pulses so far, or all of them, that are the same but for their places
abbrev elsewhere : Laid → List ℕ → Laid
elsewhere x places = record { last = x.last; lines = x.lines; amplitudes = x.amplitudes; places = places }

abbrev LikeLaid : Laid → Laid → Type 0
LikeLaid x y = (places : List ℕ) × (elsewhere x places ≡ y)

abbrev placed_at : Pulses → List ℕ → Pulses
placed_at x places = record { count = x.count; lines = x.lines; amplitudes = x.amplitudes; places = places }

abbrev pub LikePulses : Pulses → Pulses → Type 0
LikePulses x y = (places : List ℕ) × (placed_at x places ≡ y)

pub like_itself : (x : Pulses) → LikePulses x x
like_itself x = (x.places, refl)

pulse-moved : (k : ℕ) (x y : Laid) → LikeLaid x y → Moved LikeLaid (pulse k x) (pulse k y)
unfolding pulse
pulse-moved k x y o =
    subst (λ y. Moved LikeLaid (pulse k x) (pulse k y)) o.1 (
    bind_moved (λ a. tt) here-moved λ p q u.
    then_moved (expecting-moves 25 _ _ (field-moves 5)) λ offset.
    then_moved (field-moves 4) λ amplitude.
    give-moved (set o.0 k q, refl))

data_moved : (index : ℕ) → Moved LikePulses (pulse_data index) (pulse_data index)
unfolding pulse_data start_band each_pulse
data_moved index =
    then_moved (field-moves 2) λ less.
    then_moved (expecting-moves 25 _ _ (field-moves 6)) λ start.
    bind_moved (λ x. (x.places, refl))
    (counted-moved LikeLaid (λ x. (x.places, refl)) pulse-moved 0 (less + 1) (none_laid _) (none_laid _) (replicate 4 0, refl)) λ x y o.
    give-moved (o.0, ap (all_laid (less + 1)) o.1)

pub pulses-moved : (index : ℕ) (short : Bool) → Moved LikePulses (pulses index short) (pulses index short)
unfolding pulses
pulses-moved index short =
    then_moved (expecting-moves 25 _ _ (field-moves 1)) λ flag.
    pick-moved (eqb flag 1) (data_moved index) (give-moved (like_itself no_pulses))

-- a change of the lines that is accepted is accepted whatever the pulse's place is
changed_anywhere : (z : ℤ) (line place : ℕ) (lines : List ℤ) (at next : ℕ) (a : List ℤ) → changed z line place lines at ≡ got a next
    → (place' at' : ℕ) → changed z line place' lines at' ≡ got a at'
unfolding changed
changed_anywhere z line place lines at next a e place' at' = by_size (leb (nat_abs z) 8191) (set lines line z) e
  where
    by_size : (b : Bool) (ls : List ℤ) → pick b (got ls at) (refused 26 place) ≡ got a next
        → pick b (got ls at') (refused 26 place') ≡ got a at'
    by_size true ls e = ap (λ (l : List ℤ). got l at') (same-value e)
    by_size false ls e = never e

apply_moved : (x : Pulses) (places : List ℕ) (k : ℕ) (lines lines' : List ℤ) → lines ≡ lines'
    → Moved ◌≡◌ (apply_pulse x k lines) (apply_pulse (placed_at x places) k lines')
unfolding apply_pulse
apply_moved x places k lines lines' same =
    subst (λ ls. Moved ◌≡◌ (apply_pulse x k lines) (apply_pulse (placed_at x places) k ls)) same (
    still_moved λ s at end next a e.
    (sym (changed-at _ _ _ lines at next a e), λ t at' end'. (a, refl, changed_anywhere _ _ _ lines at next a e _ at')))

pub applied_moved : (x y : Pulses) → LikePulses x y → (lines : List ℤ) → Moved ◌≡◌ (apply_pulses x lines) (apply_pulses y lines)
unfolding apply_pulses
applied_moved x y o lines =
    subst (λ y. Moved ◌≡◌ (apply_pulses x lines) (apply_pulses y lines)) o.1
    (counted-moved ◌≡◌ (λ ls. refl) (apply_moved x o.0) 0 x.count lines lines refl)
