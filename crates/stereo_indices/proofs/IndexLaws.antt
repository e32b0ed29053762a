-- An index from another, case by case, with the code's answer on the left.
-- Assumes nothing.
use Prim.Native.Nat.{ℕ, ◌-◌, ◌≤◌}
use mathlib.Core.Path.{◌≡◌, sym, ◌∙◌, ap, subst}
use mathlib.Core.List.{List}
use mathlib.Core.Bool.{Bool, true, false}
use native.Mathlib.Omega.{arith}
use lib.Dec.{eqb}
use lib.ListN.{take, get_or}
use lib.IntN.{ℤ, pos, nat_abs}
use mir.Syntax.{w8, w16}
use mir.Val.{SFits, to_z, of_z}
use mir.ValLaws.{to_z-of_z}
use Rattle.bits.specs.Reader.{Answer, got, refused, give, pick, expecting}
use Rattle.bits.proofs.PaddedLaws.{Filled, taken-long}
use Rattle.bits.proofs.Signed.{fits}
use Rattle.bits.proofs.Lawful.{split, tested-got, same-value}
use Rattle.tables.specs.Tables.{Table, word_of}
use Rattle.stereo_indices.proofs.KindLaws.{table_is, through, byte_abs, least_abs, most_abs, added_abs, pick-fits}
use Rattle.tables.specs.GeneratedNames.{table_at}
use Rattle.stereo_indices.specs.Kind.{least, most, within, in_range}
use Rattle.stereo_indices.specs.Difference.{difference, added}
use Rattle.stereo_indices.specs.InnerTables.{difference_number}
use Rattle.stereo_indices.specs.Indices.{reference, index_from, index}
use Rattle.stereo_indices.specs.declared.Kind.{Kind}

module _ (k : Kind) (mode time : ℕ) (s : List ℕ) (at end : ℕ) where
  -- the word of the table that the code chose
  pub difference-is : (table : ℕ) {a : Answer ℕ} → table ≡ difference_number k mode time → word_of (table_at table) s at end ≡ a
      → difference k mode time s at end ≡ a
  unfolding difference
  difference-is table e q =
      ap (λ (t : Table). word_of t s at end) (sym (table_is k mode time)) ∙ ap (λ (t : ℕ). word_of (table_at t) s at end) (sym e) ∙ q

  module _ (x : ℤ) where
    pub index-got : (e next : ℕ) → difference k mode time s at end ≡ got e next → in_range k mode (added k mode x e) ≡ true
        → got (added k mode x e) next ≡ index_from k mode time x s at end
    unfolding index_from
    index-got e next q r = rw (q, r)

    pub index-outside : (e next : ℕ) → difference k mode time s at end ≡ got e next → in_range k mode (added k mode x e) ≡ false
        → refused 32 at ≡ index_from k mode time x s at end
    unfolding index_from
    index-outside e next q r = rw (q, r)

    pub index-refused : (n place : ℕ) → difference k mode time s at end ≡ refused n place
        → refused n place ≡ index_from k mode time x s at end
    unfolding index_from
    index-refused n place q = rw q

    -- what is read is in its range
    pub index-ranged : (y : ℤ) (next : ℕ) → index_from k mode time x s at end ≡ got y next → in_range k mode y ≡ true
    unfolding index_from
    index-ranged y next q =
        let w = split (expecting 32 (λ e. in_range k mode (added k mode x e)) (difference k mode time) s at end)
        (λ e. give (added k mode x e)) s end next y q in
        let v = tested-got (difference k mode time s at end) 32 (λ e. in_range k mode (added k mode x e)) at w.1 w.0 w.2 in
        let z : added k mode x w.0 ≡ y = same-value w.3 in
        subst (λ (i : ℤ). in_range k mode i ≡ true) z v.1

-- the index that the code adds is the definition's, and so is the test that it makes
module _ (k : Kind) (mode e : ℕ) (x : ℤ) (small : e ≤ 60) (f : SFits w8 x) (sum : ℤ) (q : sum ≡ added k mode (to_z w8 (of_z w8 x)) e) where
  sum-is : sum ≡ added k mode x e
  sum-is = q ∙ ap (λ (y : ℤ). added k mode y e) (to_z-of_z w8 x f)

  pub wide_sum : to_z w16 (of_z w16 sum) ≡ added k mode x e
  wide_sum = through w16 218 sum-is (added_abs k mode x e small (byte_abs x f)) (omega arith)

  pub judged : {low high : ℤ} {test : Bool} → low ≡ least k mode → high ≡ most k mode
      → test ≡ within (to_z w16 (of_z w16 low)) (to_z w16 (of_z w16 high)) (to_z w16 (of_z w16 sum))
      → test ≡ in_range k mode (added k mode x e)
  judged l m t = rw (
    through w16 15 l (least_abs k mode) (omega arith),
    through w16 15 m (most_abs k mode) (omega arith),
    wide_sum,
  ) at t

-- what the code adds to is what the definition adds to
reference-is : (time i : ℕ) (before xs : List ℤ) (last from : ℤ) → SFits w8 (get_or before i (pos 0)) → nat_abs last ≤ 15 → i ≤ 34
    → Filled 34 (pos 0) i xs → last ≡ get_or (take i xs) (i - 1) (pos 0)
    → from ≡ pick (eqb time 1) (to_z w8 (of_z w8 (get_or before i (pos 0)))) last
    → to_z w8 (of_z w8 from) ≡ reference time before (take i xs)
unfolding reference
reference-is time i before xs last from f small h g e q =
    let p : SFits w8 (pick (eqb time 1) (get_or before i (pos 0)) last) = pick-fits (eqb time 1) f (fits 15 small (omega arith)) in
    let r : from ≡ pick (eqb time 1) (get_or before i (pos 0)) last = rw (to_z-of_z w8 _ f) at q in
    ap (λ (z : ℤ). to_z w8 (of_z w8 z)) r ∙ to_z-of_z w8 _ p
    ∙ rw (taken-long 34 (pos 0) i xs h g) (ap (pick (eqb time 1) (get_or before i (pos 0))) e)

-- so it reads the definition's next index
pub index-is : (k : Kind) (mode time i : ℕ) (before xs : List ℤ) (last from : ℤ) → SFits w8 (get_or before i (pos 0)) → nat_abs last ≤ 15
    → i ≤ 34 → Filled 34 (pos 0) i xs → last ≡ get_or (take i xs) (i - 1) (pos 0)
    → from ≡ pick (eqb time 1) (to_z w8 (of_z w8 (get_or before i (pos 0)))) last
    → (s : List ℕ) (at end : ℕ)
    → index k mode time before (take i xs) s at end ≡ index_from k mode time (to_z w8 (of_z w8 from)) s at end
unfolding index
index-is k mode time i before xs last from f small h g e q s at end =
    ap (λ (x : ℤ). index_from k mode time x s at end) (sym (reference-is time i before xs last from f small h g e q))
