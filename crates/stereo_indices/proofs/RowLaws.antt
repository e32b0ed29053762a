-- The record that some envelopes leave.
-- Assumes nothing.
use Prim.Native.Nat.{ℕ}
use mathlib.Core.Path.{◌≡◌, refl}
use mathlib.Core.List.{List, [], ◌∷◌, ◌++◌}
use Rattle.stereo_indices.specs.Record.{record_of}
use Rattle.stereo_indices.specs.Rows.{record_after_rows}
use Rattle.stereo_indices.specs.declared.Record.{Record}
use Rattle.stereo_indices.specs.declared.Row.{Row}

-- the record after one envelope more
pub record_after_rows-more : (h : Record) (mode : ℕ) (rs : List Row) (r : Row)
    → record_after_rows h mode (rs ++ r ∷ []) ≡ record_of mode r.indices
record_after_rows-more h mode [] r = refl
record_after_rows-more h mode (q ∷ rs) r = record_after_rows-more (record_of mode q.indices) mode rs r
