-- Window information takes 17 bits at most, sections 14 a band, scale factors 20 a band, pulses 45; no stream has more than 120 bands.
-- Assumes nothing.
use Prim.Native.Nat.{ℕ, ◌+◌, ◌*◌, ◌-◌, ◌<◌, ◌≤◌, ◌^◌, min, max}
use mathlib.Core.Path.{◌≡◌, refl}
use mathlib.Core.List.{List, [], ◌∷◌}
use mathlib.Core.Bool.{Bool, true, false}
use native.Mathlib.Omega.{arith}
use native.Mathlib.Nat.{suc-mul}
use lib.Dec.{leb, ltb, eqb}
use lib.Pow.{pow_mono}
use lib.ListN.{length, get_or}
use lib.IntN.{ℤ}
use borrow.Author.Tests.{leb-true, ltb-true, eqb-true}
use Rattle.bits.specs.Reader.{pick}
use Rattle.bits.specs.Field.{field}
use Rattle.bits.proofs.Bools.{true-false, and_both}
use Rattle.bits.proofs.Gives.{Gives, so_gives, give-gives, bind_gives, then_gives, expecting-gives, field-gives}
use Rattle.bits.proofs.NearLaws.{Costs, Near, so_costs, on_costs, give-costs, here-costs, field-costs, zero_bit-costs, expecting-costs}
use Rattle.bits.proofs.NearLaws.{pick-costs, known-costs, bind_costs, each-costs, while-costs}
use Rattle.tables.proofs.WordNear.{word-near}
use Rattle.channel_bands.specs.Bands.{band_count}
use Rattle.channel_bands.proofs.BandLaws.{bands-most}
use Rattle.channel_bands.proofs.GroupingLaws.{groups-room}
use Rattle.channel_bands.proofs.GroupCounts.{groups-few}
use Rattle.channel_side.specs.InnerAnswers.{Bounded}
use Rattle.channel_side.specs.Window.{Window, is_short, max_sfb, groups, window_sequence, max_sfb_of, grouping_of, window_bands, window}
use Rattle.channel_side.specs.Sections.{Length, increment, section_length, section_book, Covered, section, group_sections}
use Rattle.channel_side.specs.Sections.{width_of, group_books, sections}
use Rattle.channel_side.specs.Factors.{Factors, factor, band_factor, first_factors, scale_factors}
use Rattle.channel_side.specs.Pulses.{Laid, Pulses, pulse, each_pulse, start_band, pulse_data, pulses, apply_pulse, apply_pulses}
use Rattle.channel_side.proofs.WindowLaws.{max_sfb_bound}
use Rattle.channel_side.proofs.SectionLaws.{increment-takes, section-takes}
use Rattle.channel_side.proofs.SideLawful.{width-pos, changed-at}

-- max_sfb is no more than the number of bands
pub window-bounded : (index : ℕ) → Gives (Bounded index) (window index)
unfolding window window_bands
window-bounded index =
    then_gives window_sequence λ sequence.
    then_gives (field 1) λ shape.
    bind_gives {P = λ m. m ≤ band_count index (eqb sequence 2)} {r = max_sfb_of index (eqb sequence 2)}
    (record { law = λ s at end next m e. max_sfb_bound index (eqb sequence 2) s at end m next e }) λ m h.
    then_gives (grouping_of (eqb sequence 2)) λ grouping. give-gives h

max_sfb_of-near : (index : ℕ) (short : Bool) → Near 6 (max_sfb_of index short)
unfolding max_sfb_of
max_sfb_of-near index true =
    expecting-costs 21 _ (so_costs (omega arith) (λ v. omega arith) (field-costs {all = 6} {m = 0} 4 (omega arith)))
max_sfb_of-near index false = expecting-costs 21 _ (field-costs 6 (omega arith))

grouping_of-near : (short : Bool) → Near 7 (grouping_of short)
unfolding grouping_of
grouping_of-near true = field-costs 7 (omega arith)
grouping_of-near false = so_costs (omega arith) (λ v. omega arith) (zero_bit-costs {all = 7} {m = 0} 20 (omega arith))

pub window-near : (index : ℕ) → Near 17 (window index)
unfolding window window_sequence window_bands
window-near index =
    bind_costs (bind_costs (zero_bit-costs 13 (omega arith)) λ reserved. field-costs 2 (omega arith)) λ sequence.
    bind_costs (field-costs 1 (omega arith)) λ shape.
    bind_costs (on_costs (omega arith) (max_sfb_of-near index (eqb sequence 2))) λ m.
    bind_costs (on_costs (omega arith) (grouping_of-near (eqb sequence 2))) λ grouping.
    give-costs (omega arith)

module _ (width : ℕ) (some : 0 < width) (few : width ≤ 5) where
  -- a length counts 14 bits a band, 5 less while an increment follows
  abbrev length_count : ℕ → Length → ℕ
  length_count room x = 14 * min x.bands room - pick x.goes_on 5 0

  -- all ones add a band at least
  grown : (room bands m v : ℕ) → m ≤ max 4 (14 * min bands room - 5) → 0 < bands + v → bands + v ≤ room
      → (b : Bool) → eqb (v + 1) (2 ^ width) ≡ b → m + width ≤ 14 * min (bands + v) room - pick b 5 0
  grown room bands m v h l g true e =
      omega (arith, eqb-true (v + 1) (2 ^ width) e, pow_mono {i = 1} {j = width} some)
  grown room bands m v h l g false e = omega arith

  increment-costs : (room m : ℕ) (x : Length) → 0 < room → m ≤ max 4 (14 * min x.bands room - 5)
      → Costs (14 * room) m (length_count room) (increment width room x)
  unfolding increment
  increment-costs room m x r h =
      known-costs (λ v. (0 < x.bands + v) × (x.bands + v ≤ room))
      (so_gives (λ v e. let w = and_both (ltb 0 (x.bands + v)) (leb (x.bands + v) room) e in (ltb-true _ _ w.0, leb-true _ _ w.1))
      (expecting-gives 22 _ (field width)))
      (expecting-costs 22 _ (field-costs width (omega arith))) λ v p.
      give-costs (grown room x.bands m v h p.0 p.1 (eqb (v + 1) (2 ^ width)) refl)

  -- a section's length, after the four bits of its book
  length-costs : (room : ℕ) → 0 < room → Costs (14 * room) 4 (λ n. 14 * min n room) (section_length width room)
  unfolding section_length
  length-costs room r =
      bind_costs (while-costs (length_count room) (increment-takes width room some)
      (λ x e. increment-costs room (length_count room x) x r (let q : ◌≡◌ {A = ℕ} (pick x.goes_on 5 0) 5 = rw e in omega arith))
      (record { bands = 0; goes_on = true }) (λ e. increment-costs room 4 _ r (omega arith)) (λ e. absurd (true-false true refl e))) λ x.
      give-costs (omega arith)

  section-costs : (max_sfb base : ℕ) (x : Covered) → x.count < max_sfb
      → Costs (14 * max_sfb) (14 * min x.count max_sfb) (λ y. 14 * min y.count max_sfb) (section width max_sfb base x)
  unfolding section section_book
  section-costs max_sfb base x h =
      bind_costs (expecting-costs 23 _ (field-costs 4 (omega arith))) λ book.
      bind_costs {f = λ n. 14 * x.count + 14 * min n (max_sfb - x.count)}
      (so_costs (omega arith) (λ n. omega arith) (length-costs (max_sfb - x.count) (omega arith))) λ n.
      give-costs (omega arith)

  group-near : (max_sfb base : ℕ) (books : List ℕ) → Near (max_sfb * 14) (group_sections width max_sfb base books)
  unfolding group_sections
  group-near max_sfb base books =
      bind_costs (so_costs {all = 14 * max_sfb} {m = 0} {f = λ y. 14 * min y.count max_sfb} {g = λ y. 14 * min y.count max_sfb}
      (omega arith) (λ y. omega arith)
      (while-costs (λ y. 14 * min y.count max_sfb) (section-takes width max_sfb base some)
      (λ x e. section-costs max_sfb base x (ltb-true _ _ e)) (record { count = 0; books = books })
      (λ e. so_costs {all = 14 * max_sfb} (omega arith) (λ y. omega arith)
      (section-costs max_sfb base (record { count = 0; books = books }) (ltb-true _ _ e)))
      (λ e. omega arith))) λ x.
      give-costs (omega arith)

  groups-near : (max_sfb : ℕ) (ns : List ℕ) (base : ℕ) (books : List ℕ)
      → Near (length ns * max_sfb * 14) (group_books width max_sfb ns base books)
  unfolding group_books
  groups-near max_sfb [] base books = give-costs (omega arith)
  groups-near max_sfb (n ∷ ns) base books =
      let q = suc-mul (length ns) max_sfb in
      bind_costs (on_costs (omega arith) (group-near max_sfb base books)) λ bs.
      so_costs {all = length ns * max_sfb * 14} (omega arith) (λ a. omega arith) (groups-near max_sfb ns _ bs)

narrow : (short : Bool) → width_of short ≤ 5
unfolding width_of
narrow true = omega arith
narrow false = omega arith

-- the bands of all groups
bands-few : (index : ℕ) (w : Window) → Bounded index w → length (groups w) * max_sfb w ≤ 120
bands-few index w h =
    groups-room (is_short w) w.grouping (length (groups w)) (max_sfb w) refl (groups-few (is_short w) w.grouping)
    (omega (arith, h, bands-most index (is_short w)))

pub sections-near : (index : ℕ) (w : Window) → Bounded index w → Near 1680 (sections w)
unfolding sections
sections-near index w h =
    let few = bands-few index w h in
    so_costs (omega arith) (λ a. omega arith)
    (groups-near (width_of (is_short w)) (width-pos (is_short w)) (narrow (is_short w)) (max_sfb w) (groups w) 0 _)

factor-near : (books : List ℕ) (i : ℕ) (x : Factors) → Near 20 (band_factor books i x)
unfolding band_factor factor
factor-near books i x =
    pick-costs (eqb (get_or books i 0) 0) (λ e. give-costs (omega arith))
    (λ e. bind_costs (expecting-costs 24 _ (word-near 0 (omega arith))) λ entry. give-costs (omega arith))

pub factors-near : (index gain : ℕ) (w : Window) (books : List ℕ) → Bounded index w → Near 2400 (scale_factors gain w books)
unfolding scale_factors first_factors
factors-near index gain w books h =
    let few = bands-few index w h in
    bind_costs (each-costs 20 (factor-near books) 0 (length (groups w) * max_sfb w) (omega arith) _) λ x.
    give-costs (omega arith)

pulse-near : (k : ℕ) (x : Laid) → Near 9 (pulse k x)
unfolding pulse
pulse-near k x =
    bind_costs here-costs λ place.
    bind_costs (expecting-costs 25 _ (field-costs 5 (omega arith))) λ offset.
    bind_costs (field-costs 4 (omega arith)) λ amplitude.
    give-costs (omega arith)

data_near : (index : ℕ) → Near 44 (pulse_data index)
unfolding pulse_data start_band each_pulse
data_near index =
    known-costs (λ less. less < 4) (field-gives 2) (field-costs 2 (omega arith)) λ less h.
    bind_costs (expecting-costs 25 _ (field-costs 6 (omega arith))) λ start.
    bind_costs (each-costs 9 pulse-near 0 (less + 1) (omega arith) _) λ x.
    give-costs (omega arith)

pub pulses-near : (index : ℕ) (short : Bool) → Near 45 (pulses index short)
unfolding pulses
pulses-near index short =
    bind_costs (expecting-costs 25 _ (field-costs 1 (omega arith))) λ flag.
    pick-costs (eqb flag 1) (λ e. so_costs {all = 44} (omega arith) (λ a. omega arith) (data_near index)) (λ e. give-costs (omega arith))

apply_near : (x : Pulses) (k : ℕ) (lines : List ℤ) → Near 0 (apply_pulse x k lines)
unfolding apply_pulse
apply_near x k lines = record {
  law = λ s at end next a e. let q = changed-at _ _ _ _ at next a e in omega arith;
  same = λ s at end end' p q. refl;
}

-- pulses that are applied take no bits
pub applied_near : (x : Pulses) (lines : List ℤ) → Near 0 (apply_pulses x lines)
unfolding apply_pulses
applied_near x lines =
    so_costs {all = 0} (omega arith) (λ a. omega arith) (each-costs {m = 0} 0 (apply_near x) 0 x.count (omega arith) lines)
