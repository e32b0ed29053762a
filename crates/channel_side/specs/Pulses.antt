-- The pulses, and the lines that they change.
use Rattle.std.specs.Prelude.{ℕ, ◌+◌, List, Bool, true, false, eqb, leb, ltb, get_or, set, replicate, ℤ, pos, ◌+ℤ◌, ◌-ℤ◌, nat_abs}
use Rattle.std.specs.Int.Signed.{lt_z}
use Rattle.bits.specs.Reader.{Answer, got, refused, Reader, give, pick, expecting, ◌>>=◌}
use Rattle.bits.specs.Field.{field}
use Rattle.bits.specs.Loop.{counted}
use Rattle.bits.specs.Places.{here}
use Rattle.channel_bands.specs.Bands.{bands, band_count, first_line}
-- pulses so far: the line that the next offset counts from; and in four places the line, the amplitude and the place of each
pub use Rattle.channel_side.specs.declared.pulses.Laid.{Laid}
-- how many pulses there are, and in four places the line, the amplitude and the place of each
pub use Rattle.channel_side.specs.declared.pulses.Pulses.{Pulses}

-- no pulse so far: the first offset counts from a line
abbrev pub none_laid : ℕ → Laid
none_laid line = record { last = line; lines = replicate 4 0; amplitudes = replicate 4 0; places = replicate 4 0 }

-- so many pulses, as they are laid
abbrev pub all_laid : ℕ → Laid → Pulses
all_laid n x = record { count = n; lines = x.lines; amplitudes = x.amplitudes; places = x.places }

-- the k-th pulse: offset in 5 bits, 25 where its line is above 1023; amplitude in 4 bits
unfoldable pub pulse : ℕ → Laid → Reader Laid
pulse k x = do
  place ← here
  offset ← expecting 25 (λ v. leb (x.last + v) 1023) (field 5)
  amplitude ← field 4
  give (record {
    last = x.last + offset;
    lines = set x.lines k (x.last + offset);
    amplitudes = set x.amplitudes k amplitude;
    places = set x.places k place;
  })

-- n pulses, whose offsets count from a line
unfoldable pub each_pulse : ℕ → ℕ → Reader Pulses
each_pulse n line = do
  x ← counted 0 n pulse (none_laid line)
  give (all_laid n x)

-- the start band in 6 bits, 25 where there is no such band
unfoldable pub start_band : ℕ → Reader ℕ
start_band index = expecting 25 (λ b. ltb b (band_count index false)) (field 6)

-- count less one in 2 bits; the start band; then each pulse
unfoldable pub pulse_data : ℕ → Reader Pulses
pulse_data index = do
  less ← field 2
  start ← start_band index
  each_pulse (less + 1) (first_line (bands index false) start)

-- no pulses
abbrev pub no_pulses : Pulses
no_pulses = record { count = 0; lines = replicate 4 0; amplitudes = replicate 4 0; places = replicate 4 0 }

-- a flag, which is 25 with short windows; then the pulses
unfoldable pub pulses : ℕ → Bool → Reader Pulses
pulses index short = do
  flag ← expecting 25 (λ v. pick short (eqb v 0) true) (field 1)
  pick (eqb flag 1) (pulse_data index) (give no_pulses)

-- a line above 0 gains the amplitude; any other loses it
unfoldable pub pulsed : ℤ → ℕ → ℤ
pulsed line amplitude = pick (lt_z (pos 0) line) (line +ℤ pos amplitude) (line -ℤ pos amplitude)

-- the lines with one changed; a magnitude above 8191 is 26, at the pulse's place
unfoldable pub changed : ℤ → ℕ → ℕ → List ℤ → ℕ → Answer (List ℤ)
changed after line place lines at = pick (leb (nat_abs after) 8191) (got (set lines line after) at) (refused 26 place)

-- the k-th pulse is applied; nothing is read
unfoldable pub apply_pulse : Pulses → ℕ → List ℤ → Reader (List ℤ)
apply_pulse x k lines s at end =
    changed (pulsed (get_or lines (get_or x.lines k 0) (pos 0)) (get_or x.amplitudes k 0)) (get_or x.lines k 0) (get_or x.places k 0)
    lines at

-- the pulses are applied in order, each on what the one before left
unfoldable pub apply_pulses : Pulses → List ℤ → Reader (List ℤ)
apply_pulses x = counted 0 x.count (apply_pulse x)
