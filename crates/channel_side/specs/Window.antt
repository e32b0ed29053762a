-- The window information of a channel stream.
use Rattle.std.specs.Prelude.{ℕ, List, Bool, eqb, leb}
use Rattle.bits.specs.Reader.{Reader, give, pick, expecting, ◌>>=◌}
use Rattle.bits.specs.Field.{field, zero_bit}
use Rattle.channel_bands.specs.Bands.{band_count}
use Rattle.channel_bands.specs.Grouping.{groups_of}
pub use Rattle.channel_side.specs.declared.window.Window.{Window}

-- window sequence 2 is eight short windows
abbrev pub is_short : Window → Bool
is_short w = eqb w.sequence 2

abbrev pub max_sfb : Window → ℕ
max_sfb w = w.max_sfb

-- the windows of each group; the grouping bits are 0 where windows are long
abbrev pub groups : Window → List ℕ
groups w = groups_of (is_short w) w.grouping

-- a reserved bit, which is 0, or 13; then window_sequence
unfoldable pub window_sequence : Reader ℕ
window_sequence = do
  reserved ← zero_bit 13
  field 2

-- max_sfb, in 4 bits for short windows, else 6; above the number of bands it is 21
unfoldable pub max_sfb_of : ℕ → Bool → Reader ℕ
max_sfb_of index short = expecting 21 (λ m. leb m (band_count index short)) (field (pick short 4 6))

-- the seven grouping bits of short windows; for long ones the prediction flag, which is 0, or 20
unfoldable pub grouping_of : Bool → Reader ℕ
grouping_of short = pick short (field 7) (zero_bit 20)

-- max_sfb; then grouping or prediction
unfoldable pub window_bands : ℕ → ℕ → ℕ → Reader Window
window_bands index sequence shape = do
  most ← max_sfb_of index (eqb sequence 2)
  grouping ← grouping_of (eqb sequence 2)
  give (record { sequence = sequence; shape = shape; max_sfb = most; grouping = grouping })

-- window_sequence; window_shape; then max_sfb and what follows it
unfoldable pub window : ℕ → Reader Window
window index = do
  sequence ← window_sequence
  shape ← field 1
  window_bands index sequence shape
