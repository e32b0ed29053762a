-- The scale factors, at group times max_sfb plus band.
use Rattle.std.specs.Prelude.{ℕ, ◌+◌, ◌*◌, ◌-◌, List, ◌&&◌, eqb, leb, length, get_or, set, replicate}
use Rattle.bits.specs.Reader.{Reader, give, pick, expecting, ◌>>=◌}
use Rattle.bits.specs.Loop.{counted}
use Rattle.tables.specs.Tables.{word_of}
use Rattle.tables.specs.GeneratedNames.{scale_factor}
use Rattle.channel_side.specs.Window.{Window, max_sfb, groups}

-- the last scale factor, and all so far
pub record Factors : Type 0 where
  pub last : ℕ
  pub values : List ℕ

-- the i-th scale factor: the entry number minus 60 is added to the last; outside 0 to 255 it is 24
unfoldable pub factor : ℕ → Factors → Reader Factors
factor i x = do
  entry ← expecting 24 (λ e. leb 60 (x.last + e) && leb (x.last + e) 315) (word_of scale_factor)
  give (record { last = x.last + entry - 60; values = set x.values i (x.last + entry - 60) })

-- the scale factor of a band of some book: book 0 gives 0
unfoldable pub band_factor : List ℕ → ℕ → Factors → Reader Factors
band_factor books i x = pick (eqb (get_or books i 0) 0) (give x) (factor i x)

-- the scale factors of the first n bands, from a gain on
unfoldable pub first_factors : ℕ → ℕ → List ℕ → List ℕ → Reader (List ℕ)
first_factors n gain books values = do
  x ← counted 0 n (band_factor books) (record { last = gain; values = values })
  give x.values

-- the scale factors of all groups, starting at global_gain; 0 where unused
unfoldable pub scale_factors : ℕ → Window → List ℕ → Reader (List ℕ)
scale_factors gain w books = first_factors (length (groups w) * max_sfb w) gain books (replicate 120 0)
