-- The reading laws of window information, sections, scale factors and pulses: their parts have them, and the ways of putting readers
-- together keep them.
-- Assumes nothing.
use Prim.Native.Nat.{ℕ, ◌<◌}
use mathlib.Core.Path.{◌≡◌, refl}
use mathlib.Core.List.{List, [], ◌∷◌}
use mathlib.Core.Bool.{Bool, true, false}
use lib.Dec.{leb}
use lib.IntN.{ℤ, nat_abs}
use native.Mathlib.Omega.{arith}
use Rattle.bits.specs.Reader.{got, refused, pick}
use Rattle.bits.proofs.Lawful.{Accepting, Lawful, never, bind_lawful, give-lawful, refuse-lawful, pick-lawful, expecting-lawful}
use Rattle.bits.proofs.FieldLaws.{field-lawful, zero_bit-lawful}
use Rattle.bits.proofs.LoopLaws.{counted-accepting, counted-lawful}
use Rattle.bits.proofs.PlacesLaws.{here-lawful}
use Rattle.tables.specs.Tables.{word_of}
use Rattle.tables.specs.GeneratedNames.{scale_factor}
use Rattle.tables.proofs.Rules.{lawful-at}
use Rattle.channel_side.specs.Window.{Window, is_short, window_sequence, max_sfb_of, grouping_of, window_bands, window}
use Rattle.channel_side.specs.Sections.{group_books, width_of, sections}
use Rattle.channel_side.proofs.SectionLaws.{group-lawful}
use Rattle.channel_side.specs.Factors.{Factors, factor, band_factor, first_factors, scale_factors}
use Rattle.channel_side.specs.Pulses.{Laid, Pulses, pulse, each_pulse, start_band, pulse_data, pulses, changed, apply_pulse, apply_pulses}

ruleset laws =
    (bind_lawful, give-lawful, refuse-lawful, pick-lawful, expecting-lawful, field-lawful, zero_bit-lawful, counted-lawful, here-lawful)

max_sfb_of-lawful : (index : ℕ) (short : Bool) → Lawful (max_sfb_of index short)
unfolding max_sfb_of
max_sfb_of-lawful index short = search laws depth 8

grouping_of-lawful : (short : Bool) → Lawful (grouping_of short)
unfolding grouping_of
grouping_of-lawful short = search laws depth 8

pub window-lawful : (index : ℕ) → Lawful (window index)
unfolding window window_sequence window_bands
window-lawful index = search (laws, max_sfb_of-lawful, grouping_of-lawful) depth 12

groups-lawful : (width max_sfb : ℕ) → 0 < width → (ns : List ℕ) (base : ℕ) (books : List ℕ) →
    Lawful (group_books width max_sfb ns base books)
unfolding group_books
groups-lawful width max_sfb h [] base books = give-lawful books
groups-lawful width max_sfb h (n ∷ ns) base books =
    bind_lawful _ _ (group-lawful width max_sfb base h books) (groups-lawful width max_sfb h ns _)

pub width-pos : (short : Bool) → 0 < width_of short
unfolding width_of
width-pos true = omega arith
width-pos false = omega arith

pub sections-lawful : (w : Window) → Lawful (sections w)
unfolding sections
sections-lawful w = groups-lawful _ _ (width-pos (is_short w)) _ _ _

word-lawful : Lawful (word_of scale_factor)
word-lawful = lawful-at 0

factor-lawful : (books : List ℕ) (i : ℕ) (x : Factors) → Lawful (band_factor books i x)
unfolding band_factor factor
factor-lawful books i x = search (laws, word-lawful) depth 8

pub factors-lawful : (gain : ℕ) (w : Window) (books : List ℕ) → Lawful (scale_factors gain w books)
unfolding scale_factors first_factors
factors-lawful gain w books = search (laws, factor-lawful) depth 8

pub pulse-lawful : (k : ℕ) (x : Laid) → Lawful (pulse k x)
unfolding pulse
pulse-lawful k x = search laws depth 8

pulse_data-lawful : (index : ℕ) → Lawful (pulse_data index)
unfolding pulse_data start_band each_pulse
pulse_data-lawful index = search (laws, pulse-lawful) depth 8

pub pulses-lawful : (index : ℕ) (short : Bool) → Lawful (pulses index short)
unfolding pulses
pulses-lawful index short = search (laws, pulse_data-lawful) depth 8

-- a change of the lines reads nothing
pub changed-at : (z : ℤ) (line place : ℕ) (lines : List ℤ) (at next : ℕ) (a : List ℤ) → changed z line place lines at ≡ got a next
    → at ≡ next
unfolding changed
changed-at z line place lines at next a e = go (leb (nat_abs z) 8191) _ e
  where
    go : (t : Bool) (ls : List ℤ) → pick t (got ls at) (refused 26 place) ≡ got a next → at ≡ next
    go true ls e = cc
    go false ls e = never e

-- what pulses change is right; the place of a refusal is what the pulses say
apply_accepting : (x : Pulses) (k : ℕ) (lines : List ℤ) → Accepting (apply_pulse x k lines)
unfolding apply_pulse
apply_accepting x k lines = record {
  within = λ s at end next a h e. let q = changed-at _ _ _ _ at next a e in (omega arith, omega arith);
  local = λ s t at end h q. refl;
  stable = λ s at end next end' a h e l. e;
  cut = λ s at end next end' a h e l g. let q = changed-at _ _ _ _ at next a e in absurd (omega arith);
}

pub applied_accepting : (x : Pulses) (lines : List ℤ) → Accepting (apply_pulses x lines)
unfolding apply_pulses
applied_accepting x lines = counted-accepting (apply_pulse x) (apply_accepting x) 0 _ lines
