-- The indices of one kind in one envelope.
use Rattle.std.specs.Prelude.{ℕ, ◌-◌, List, eqb, length, get_or, ℤ, pos}
use Rattle.bits.specs.Reader.{Reader, give, pick, expecting, ◌>>=◌}
use Rattle.bits.specs.Lists.{padded}
use Rattle.bits.specs.Loop.{listed}
use Rattle.stereo_indices.specs.Kind.{bands, in_range}
use Rattle.stereo_indices.specs.Difference.{difference, added}
use Rattle.stereo_indices.specs.declared.Kind.{Kind}

-- what a difference is added to: across time the index of the record, across frequency the index before it, or 0 for the first
unfoldable pub reference : ℕ → List ℤ → List ℤ → ℤ
reference time before xs = pick (eqb time 1) (get_or before (length xs) (pos 0)) (get_or xs (length xs - 1) (pos 0))

-- a word's difference added to an index; outside the range it is 32
unfoldable pub index_from : Kind → ℕ → ℕ → ℤ → Reader ℤ
index_from k mode time x = do
  e ← expecting 32 (λ e. in_range k mode (added k mode x e)) (difference k mode time)
  give (added k mode x e)

-- the next index, after those of lower bands
unfoldable pub index : Kind → ℕ → ℕ → List ℤ → List ℤ → Reader ℤ
index k mode time before xs = index_from k mode time (reference time before xs)

-- 34 indices, zeros above the band count
unfoldable pub indices : Kind → ℕ → ℕ → List ℤ → Reader (List ℤ)
indices k mode time before = do
  xs ← listed (bands k mode) (index k mode time before)
  give (padded 34 (pos 0) xs)
