-- For contracts of inner functions only: the tables of bands in one list, and what is known of them.
use Rattle.std.specs.Prelude.{ℕ, suc, ◌≤◌, ◌<◌, List, ◌++◌, Bool, length, get_or}
use Rattle.bits.specs.Reader.{pick}
use Rattle.channel_bands.specs.Bands.{long34, short34, long67, short67}

-- the lines of a window
unfoldable pub window_lines : Bool → ℕ
window_lines short = pick short 128 1024

-- the most bands that a window has, whatever the index
unfoldable pub most_bands : Bool → ℕ
most_bands short = pick short 15 49

-- the four lists, one after another
unfoldable pub all_edges : List ℕ
all_edges = long34 ++ short34 ++ long67 ++ short67

-- bands that lie one after another, up to a last line
pub record Rising (edges : List ℕ) (last : ℕ) : Type 0 where
  pub step : (b : ℕ) → suc b < length edges → (get_or edges b 0 ≤ get_or edges (suc b) 0) × (get_or edges (suc b) 0 ≤ last)
