-- What the code of the groups cites: the group at hand goes on, stops, or is the last.
-- Assumes nothing.
use Prim.Native.Nat.{ℕ, suc, ◌+◌, ◌*◌, ◌-◌, ◌/◌, ◌%◌, ◌<◌, ◌≤◌, ◌^◌}
use mathlib.Core.Path.{◌≡◌, refl, sym, ◌∙◌, ap}
use mathlib.Core.List.{List, [], ◌∷◌, ◌++◌, append_assoc}
use lib.ListN.{length, length-append, set, replicate}
use Rattle.bits.proofs.Spelt.{append-nil}
use mathlib.Core.Bool.{Bool, true, false}
use native.Mathlib.Omega.{arith}
use native.Mathlib.Nat.{mul-le-mul, one-mul}
use native.Mathlib.Numerals.{add-one}
use borrow.Author.Tests.{eq-eqb, ne_eqb}
use Rattle.channel_bands.specs.InnerBands.{most_bands}
use Rattle.channel_bands.specs.Grouping.{groups_from, groups_after, groups_of, in_eight}

pub group_begin : (from bits : ℕ) → from < 8 → groups_after (8 - from) bits ≡ groups_from (8 - (from + 1)) bits 1
unfolding groups_after
group_begin from bits h = let q : 8 - from ≡ suc (8 - (from + 1)) = omega arith in rw q

module _ (k bits n : ℕ) where
  pub group-more : 0 < k → bits / 2 ^ (k - 1) % 2 ≡ 1 → groups_from k bits n ≡ groups_from (k - 1) bits (n + 1)
  unfolding groups_from
  group-more h e =
      let q : k ≡ suc (k - 1) = omega arith in
      ap (λ (j : ℕ). groups_from j bits n) q ∙ simp (eq-eqb _ _ e, add-one)

  pub group-stop : 0 < k → (bits / 2 ^ (k - 1) % 2 ≡ 1 → ⊥) → groups_from k bits n ≡ n ∷ groups_after k bits
  unfolding groups_from groups_after
  group-stop h e =
      let q : k ≡ suc (k - 1) = omega arith in
      ap (λ (j : ℕ). groups_from j bits n) q ∙ simp (ne_eqb _ _ e) (ap (λ (j : ℕ). n ∷ groups_after j bits) (sym q))

  pub group-end : k ≡ 0 → groups_from k bits n ≡ n ∷ groups_after k bits
  unfolding groups_from groups_after
  group-end h = rw h

pub groups-short : (short : Bool) (bits : ℕ) → short ≡ true → groups_of short bits ≡ groups_after (8 - 0) bits
unfolding groups_of
groups-short short bits e = rw e

-- the groups of a list, and what is known of those that are found so far
pub record Found (all done rest : List ℕ) (windows : List ℕ) (count : ℕ) : Type 0 where
  pub whole : all ≡ done ++ rest
  pub size : length done ≡ count
  pub kept : windows ≡ in_eight done

pub found_none : {all rest : List ℕ} → all ≡ rest → Found all [] rest (replicate 8 0) 0
found_none e = record { whole = e; size = refl; kept = refl }

set_after : (xs : List ℕ) (k v : ℕ) → set (xs ++ replicate (suc k) 0) (length xs) v ≡ (xs ++ v ∷ []) ++ replicate k 0
set_after [] k v = refl
set_after (x ∷ xs) k v = ap (λ (l : List ℕ). x ∷ l) (set_after xs k v)

pub found-more : {all done rest more windows : List ℕ} {count n : ℕ} → count < 8 → rest ≡ n ∷ more → Found all done rest windows count
    → Found all (done ++ n ∷ []) more (set windows count n) (count + 1)
found-more {done = done} {more = more} {count = count} {n = n} h e f = record {
  whole = f.whole ∙ ap (λ (l : List ℕ). done ++ l) e ∙ sym (append_assoc done (n ∷ []) more);
  size = rw (length-append done (n ∷ []), f.size);
  kept =
      let l = f.size in
      let q : 8 - length done ≡ suc (8 - (count + 1)) = omega arith in
      let e : length (done ++ n ∷ []) ≡ count + 1 = rw (length-append done (n ∷ []), f.size) in
      rw (f.kept, q, ← f.size, set_after done (8 - (length done + 1)) n, e, f.size);
}

pub found_all : {all done rest windows : List ℕ} {count : ℕ} → rest ≡ [] → Found all done rest windows count
    → (count ≡ length all) × (windows ≡ in_eight all)
found_all {all = all} {done = done} q f =
    let e : all ≡ done = f.whole ∙ ap (λ (l : List ℕ). done ++ l) q ∙ append-nil done in
    (rw e (sym f.size), rw e f.kept)

pub groups-long : (short : Bool) (bits : ℕ) → short ≡ false → groups_of short bits ≡ 1 ∷ []
unfolding groups_of
groups-long short bits e = rw e

pub groups_none : (from bits : ℕ) → 8 ≤ from → groups_after (8 - from) bits ≡ []
unfolding groups_after
groups_none from bits h = let q : 8 - from ≡ 0 = omega arith in rw q

-- the bands of all groups are 120 at most
pub groups-room : (short : Bool) (bits count max_sfb : ℕ) → count ≡ length (groups_of short bits) → count ≤ 8 → max_sfb ≤ most_bands short
    → count * max_sfb ≤ 120
unfolding groups_of most_bands
groups-room true bits count max_sfb e h g = omega (arith, mul-le-mul h g)
groups-room false bits count max_sfb e h g = let q : count ≡ 1 = e in rw (q, one-mul) (omega arith)
