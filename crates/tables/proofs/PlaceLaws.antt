-- Where a table stands, by its number.
-- Assumes nothing.
use Prim.Native.Nat.{ℕ, ◌+◌, ◌≤◌}
use mathlib.Core.Bool.{Bool}
use native.Mathlib.Omega.{arith}
use native.Mathlib.Decide.{dec_lt}
use lib.Dec.{T, leb, leb→le}
use lib.ListN.{get_or-eq_default}
use Rattle.tables.specs.Tables.{Table}
use Rattle.tables.specs.GeneratedNames.{tables, no_table, table_at}
use Rattle.tables.proofs.Rules.{every, every-at}

-- a table lies in the lists
abbrev lies : Table → Bool
lies t = leb (t.first + t.count) 1604

all_lie : T (every lies tables)
all_lie = tt

pub place_in : (i : ℕ) → (table_at i).first + (table_at i).count ≤ 1604
place_in i =
    elim (dec_lt i 22) [
      | yes h ↦ leb→le ((table_at i).first + (table_at i).count) 1604 (every-at lies tables all_lie i h)
      | no h ↦ rw (get_or-eq_default tables no_table {n = i} (omega arith)) (omega arith)
    ]
