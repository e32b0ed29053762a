-- The rows of one kind: of each envelope a time flag and 34 indices.
use Rattle.std.specs.Prelude.{ℕ, List, [], ◌∷◌, Bool, ◌||◌, eqb, replicate}
use Rattle.bits.specs.Reader.{Reader, give, pick, expecting, ◌>>=◌}
use Rattle.bits.specs.Field.{field}
use Rattle.bits.specs.Loop.{listed}
use Rattle.stereo_indices.specs.Record.{zeros, record_of, agrees}
use Rattle.bits.specs.Lists.{padded}
use Rattle.stereo_indices.specs.Indices.{indices}
use Rattle.stereo_indices.specs.declared.Kind.{Kind}
use Rattle.stereo_indices.specs.declared.Record.{Record}
use Rattle.stereo_indices.specs.declared.Row.{Row}

-- what is not sent is 0
unfoldable pub no_row : Row
no_row = record { time = 0; indices = zeros }

-- four rows that are not sent
unfoldable pub no_rows : List Row
no_rows = replicate 4 no_row

-- the record after some envelopes
abbrev pub record_after_rows : Record → ℕ → List Row → Record
record_after_rows h mode [] = h
record_after_rows h mode (r ∷ rs) = record_after_rows (record_of mode r.indices) mode rs

-- a time flag stands across frequency, and across time where the record's mode is the mode in force
abbrev pub allowed : ℕ → ℕ → ℕ → Bool
allowed record_mode mode time = eqb time 0 || agrees record_mode mode

-- a time flag, else 31, and the indices
unfoldable pub row : Kind → ℕ → Record → Reader Row
row k mode h = do
  time ← expecting 31 (allowed h.mode mode) (field 1)
  xs ← indices k mode time h.indices
  give (record { time = time; indices = xs })

-- a kind in n envelopes, each after those before it
unfoldable pub rows_of : Kind → ℕ → Record → ℕ → Reader (List Row)
rows_of k mode h n = do
  rs ← listed n (λ rs. row k mode (record_after_rows h mode rs))
  give (padded 4 no_row rs)

-- a kind that is not enabled gives zeros
unfoldable pub rows : Kind → Bool → ℕ → Record → ℕ → Reader (List Row)
rows k on mode h n = pick on (rows_of k mode h n) (give no_rows)
