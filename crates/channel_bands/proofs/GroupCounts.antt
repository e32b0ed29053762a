-- The groups of a stream: eight at most, with eight short windows or one long one in all.
-- Assumes nothing.
use Prim.Native.Nat.{ℕ, zero, suc, ◌+◌, ◌*◌, ◌/◌, ◌%◌, ◌^◌, ◌≤◌}
use mathlib.Core.Path.{◌≡◌}
use mathlib.Core.List.{List, [], ◌∷◌}
use mathlib.Core.Bool.{Bool, true, false}
use native.Mathlib.Omega.{arith}
use lib.Dec.{eqb}
use lib.ListN.{length}
use Rattle.bits.specs.Reader.{pick}
use Rattle.channel_bands.specs.InnerBands.{window_lines}
use Rattle.channel_bands.specs.Grouping.{groups_from, groups_after, groups_of}

-- the windows of all groups
abbrev pub windows : List ℕ → ℕ
windows [] = 0
windows (n ∷ ns) = n + windows ns

-- k windows more, after n in the group at hand
abbrev Grouped : ℕ → ℕ → List ℕ → Type 0
Grouped k n groups = (windows groups ≡ n + k) × (length groups ≤ k + 1)

grouped : (k bits n : ℕ) → Grouped k n (groups_from k bits n)
unfolding groups_from
grouped zero bits n = (omega arith, omega arith)
grouped (suc k) bits n = by_bit (eqb (bits / 2 ^ k % 2) 1) _ _ (grouped k bits (suc n)) (grouped k bits 1)
  where
    by_bit : (b : Bool) (same other : List ℕ) → Grouped k (suc n) same → Grouped k 1 other → Grouped (suc k) n (pick b same (n ∷ other))
    by_bit true same other g h = omega arith
    by_bit false same other g h = omega arith

pub groups-few : (short : Bool) (bits : ℕ) → length (groups_of short bits) ≤ 8
unfolding groups_of groups_after
groups-few true bits = (grouped 7 bits 1).1
groups-few false bits = omega arith

-- their lines
pub groups-lines : (short : Bool) (bits : ℕ) → windows (groups_of short bits) * window_lines short ≡ 1024
unfolding groups_of groups_after window_lines
groups-lines true bits = let w = (grouped 7 bits 1).0 in omega arith
groups-lines false bits = omega arith
