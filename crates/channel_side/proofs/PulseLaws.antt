-- What the code of the pulses cites: a pulse by what its fields are, and what is left of the loop.
-- Assumes nothing.
use Prim.Native.Nat.{ℕ, zero, suc, ◌+◌, ◌-◌, ◌<◌, ◌≤◌}
use mathlib.Core.Path.{◌≡◌, refl, ◌∙◌, ap}
use mathlib.Core.List.{List}
use mathlib.Core.Bool.{Bool, true, false}
use native.Mathlib.Omega.{arith}
use lib.Dec.{ltb}
use lib.ListN.{length, get_or, replicate}
use borrow.Author.Tests.{ltb-true}
use Rattle.bits.specs.Reader.{got, refused, Reader, give, ◌>>=◌}
use Rattle.bits.specs.Field.{field}
use Rattle.bits.specs.Loop as loop
use Rattle.bits.proofs.Lawful.{tested-got}
use Rattle.bits.proofs.Taken.{field_below}
use Rattle.channel_bands.specs.Bands.{bands, band_count, first_line}
use Rattle.channel_bands.specs.InnerBands.{window_lines}
use Rattle.channel_bands.proofs.BandLaws.{bands-rising, bands-some}
use Rattle.bits.proofs.LoopLaws.{counted_start, counted-more, counted_stop, counted-done}
use Rattle.channel_side.specs.InnerAnswers.{Low}
use Rattle.channel_side.specs.Pulses.{Laid, Pulses, none_laid, all_laid, pulse, each_pulse, start_band, no_pulses, pulses}

pub low_zeros : Low (replicate 4 0)
low_zeros = record { at = zeros }
  where
    zeros : (k : ℕ) → get_or (replicate 4 0) k 0 ≤ 1023
    zeros zero = omega arith
    zeros (suc zero) = omega arith
    zeros (suc (suc zero)) = omega arith
    zeros (suc (suc (suc zero))) = omega arith
    zeros (suc (suc (suc (suc k)))) = omega arith

-- what is left of the loop
unfoldable pub rest : ℕ → ℕ → Laid → Reader Pulses
rest k n x = loop.counted k (n - k) pulse x >>= λ y. give (all_laid n y)

pub rest_start : (n line : ℕ) (s : List ℕ) (at end : ℕ) → each_pulse n line s at end ≡ rest 0 n (none_laid line) s at end
unfolding each_pulse rest
rest_start n line s at end = rw (counted_start pulse n (none_laid line) s at end)

module _ (n : ℕ) (x : Laid) (s : List ℕ) (at end : ℕ) where
  pub rest_stop : (k r p : ℕ) → k < n → pulse k x s at end ≡ refused r p → rest k n x s at end ≡ refused r p
  unfolding rest
  rest_stop k r p h e = rw (counted_stop pulse k n x s at end r p h e)

  pub rest_more : (k : ℕ) (y : Laid) (m : ℕ) → k < n → pulse k x s at end ≡ got y m → rest k n x s at end ≡ rest (k + 1) n y s m end
  unfolding rest
  rest_more k y m h e = rw (counted-more pulse k n x y s at end m h e)

  pub rest_done : (k : ℕ) → n ≤ k → rest k n x s at end ≡ got (all_laid n x) at
  unfolding rest
  rest_done k h = rw (counted-done pulse k n x s at end h)

-- a start band's first line lies in the window
pub start_line : (index : ℕ) (s : List ℕ) (at end b m : ℕ) → start_band index s at end ≡ got b m
    → (b < length (bands index false)) × (get_or (bands index false) b 0 ≤ 1024)
unfolding start_band window_lines
start_line index s at end b m e =
    let h : b < band_count index false = ltb-true _ _ (tested-got (field 6 s at end) 25 (λ v. ltb v (band_count index false)) at m b e).1 in
    let g = bands-some index false in
    let w = (bands-rising index false).step b (omega arith) in
    (omega arith, omega arith)

pub first_is : (edges : List ℕ) (b : ℕ) → first_line edges b ≡ get_or edges b 0
unfolding first_line
first_is edges b = refl

without_flag : (index : ℕ) (short : Bool) (s : List ℕ) (at end m : ℕ) → field 1 s at end ≡ got 0 m
    → pulses index short s at end ≡ got no_pulses m
unfolding pulses
without_flag index true s at end m e = rw e
without_flag index false s at end m e = rw e

-- a flag that is not 1 is 0
pub no_flag : (index : ℕ) (short : Bool) (s : List ℕ) (at end v m : ℕ) → field 1 s at end ≡ got v m → (v ≡ 1 → ⊥)
    → pulses index short s at end ≡ got no_pulses m
no_flag index short s at end v m e h =
    let b = field_below 1 s at end v m e in
    let z : v ≡ 0 = omega arith in
    without_flag index short s at end m (e ∙ ap (λ (x : ℕ). got x m) z)

-- what the code cites
pub ruleset rest_laws = (low_zeros, rest_start, rest_stop, rest_more, rest_done)

pub ruleset data_laws = (field_below, start_line, first_is)
