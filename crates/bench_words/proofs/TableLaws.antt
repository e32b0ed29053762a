-- The scan may read any run of the lists of all words and lengths, and a table is the run between its place and the next.
-- Assumes nothing.
use Prim.Native.Nat.{ℕ, ◌+◌, ◌-◌, ◌<◌, ◌≤◌}
use mathlib.Core.Path.{◌≡◌, refl, ◌∙◌, ap}
use mathlib.Core.List.{List}
use mathlib.Core.Bool.{Bool, ◌&&◌}
use native.Mathlib.Omega.{arith}
use lib.Dec.{T, eqb, eqb→eq}
use lib.ListN.{length, get_or}
use Rattle.bits.proofs.Bools.{and_left, and_right}
use Rattle.words.specs.InnerLookup.{all_below}
use Rattle.words.proofs.LookupLaws.{all-at}
use Rattle.tables.specs.GeneratedWords.{all_codes, all_lens}
use Rattle.tables.specs.GeneratedNames.{table_at}
use Rattle.tables.specs.Tables.{run}
use Rattle.tables.proofs.PlaceLaws.{place_in}
use Rattle.tables.proofs.RunLaws.{codes-count, lens-count, run_length, run_sizes}
use Rattle.bench_words.specs.InnerTable.{Usable, Scanned, places}

pub run-usable : (first count : ℕ) → first + count ≤ 1604 → Usable (run all_codes first count) (run all_lens first count)
run-usable first count h =
    let c = run_length all_codes first count (omega (arith, codes-count)) in
    let l = run_length all_lens first count (omega (arith, lens-count)) in
    record {
      same = omega arith;
      few = omega arith;
      narrow = λ i g. (run_sizes first count i h (omega arith)).1;
    }

abbrev placed : ℕ → Bool
placed t = eqb (get_or places t 0) (table_at t).first && eqb (get_or places (t + 1) 0) ((table_at t).first + (table_at t).count)

all_placed : T (all_below 22 placed)
unfolding places
all_placed = tt

pub places_count : length places ≡ 23
unfolding places
places_count = refl

-- a table's run lies between its place and the next
pub place_is : (t : ℕ) → t < 22
    → (get_or places t 0 ≡ (table_at t).first) × (get_or places (t + 1) 0 - get_or places t 0 ≡ (table_at t).count)
    × (get_or places t 0 ≤ get_or places (t + 1) 0) × (get_or places (t + 1) 0 ≤ 1604)
place_is t h =
    let a = eqb (get_or places t 0) (table_at t).first in
    let b = eqb (get_or places (t + 1) 0) ((table_at t).first + (table_at t).count) in
    let p = all-at 22 placed all_placed t h in
    let e : get_or places t 0 ≡ (table_at t).first = eqb→eq _ _ (and_left a b p) in
    let f : get_or places (t + 1) 0 ≡ (table_at t).first + (table_at t).count = eqb→eq _ _ (and_right a b p) in
    let g = place_in t in
    (e, omega arith, omega arith, omega arith)

-- where a table stands in the lists of all words
pub stands : {codes lens at : List ℕ} → Scanned codes lens at → (t : ℕ) → t < 22
    → (length at ≡ 23) × (length codes ≡ 1604) × (length lens ≡ 1604) × (get_or at t 0 ≤ get_or at (t + 1) 0) × (get_or at (t + 1) 0 ≤ 1604)
stands s t h =
    let i = place_is t h in
    (ap length s.2 ∙ places_count, ap length s.0 ∙ codes-count, ap length s.1 ∙ lens-count, rw s.2 i.2, rw s.2 i.3)
