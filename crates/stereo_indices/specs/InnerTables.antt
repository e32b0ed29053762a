-- For contracts of inner functions only: the tables of differences by number, as the code chooses them.
use Rattle.std.specs.Prelude.{ℕ, ◌+◌, eqb}
use Rattle.bits.specs.Reader.{pick}
use Rattle.stereo_indices.specs.Kind.{fine}
use Rattle.stereo_indices.specs.declared.Kind.{Kind}
use Rattle.stereo_indices.specs.declared.Kind.TheVariants.{Iid, Icc, Ipd, Opd}

-- the number of a kind's first table: the differences across frequency; those across time stand in the next one
unfoldable pub first_number : Kind → ℕ → ℕ
first_number Iid mode = pick (fine mode) 14 12
first_number Icc mode = 16
first_number Ipd mode = 18
first_number Opd mode = 20

unfoldable pub difference_number : Kind → ℕ → ℕ → ℕ
difference_number k mode time = first_number k mode + pick (eqb time 1) 1 0
