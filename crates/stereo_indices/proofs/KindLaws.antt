-- Bounds of what differs between the kinds: bands, ranges, tables and entries.
-- Assumes nothing.
use Prim.Native.Nat.{ℕ, zero, suc, ◌+◌, ◌-◌, ◌%◌, ◌<◌, ◌≤◌, ◌^◌}
use mathlib.Core.Path.{◌≡◌, refl, ◌∙◌, ap, subst}
use mathlib.Core.List.{List, [], ◌∷◌}
use mathlib.Core.Bool.{Bool, true, false, not, ◌&&◌}
use native.Mathlib.Omega.{arith}
use borrow.Author.Tests.{ltb-false, le-ltb, not-true}
use lib.Dec.{eqb, leb, ltb, T, leb→le}
use lib.ListN.{length, get_or, drop, length-take}
use lib.Seq.{get_or-drop}
use lib.IntN.{ℤ, pos, negsuc, neg_ℤ, ◌+ℤ◌, ◌-ℤ◌, nat_abs}
use lib.Signed.{lt_z, non_neg}
use mir.Syntax.{Width, w8, w16}
use mir.Val.{SFits, hbits, to_z, of_z}
use mir.ValLaws.{to_z_pos}
use Rattle.bits.specs.Reader.{got, pick}
use Rattle.bits.proofs.Bools.{and_both, and_left, and_right, true-false}
use Rattle.bits.proofs.Signed.{abs_add, abs_neg, thru, widened}
use Rattle.tables.specs.Tables.{Table, codes_of, lens_of, word_of}
use Rattle.tables.specs.GeneratedNames.{tables, no_table, table_at, level_default_frequency, level_default_time, level_fine_frequency}
use Rattle.tables.specs.GeneratedNames.{level_fine_time, coherence_frequency, coherence_time, phase_frequency, phase_time}
use Rattle.tables.specs.GeneratedNames.{overall_phase_frequency, overall_phase_time}
use Rattle.tables.specs.GeneratedWords.{all_codes}
use Rattle.words.proofs.WordLaws.{word_fit}
use Rattle.stereo_indices.specs.Kind.{is_phase, fine, by_mode, bands, by_kind, least, most, within, in_range}
use Rattle.stereo_indices.specs.Difference.{difference_table, middle, added}
use Rattle.stereo_indices.specs.InnerTables.{first_number, difference_number}
use Rattle.stereo_indices.specs.declared.Kind.{Kind}
use Rattle.stereo_indices.specs.declared.Kind.TheVariants.{Iid, Icc, Ipd, Opd}

-- at most 34 bands
pub by_mode-le : (mode a b c k : ℕ) → a ≤ k → b ≤ k → c ≤ k → by_mode mode a b c ≤ k
by_mode-le mode a b c k h i j = go (eqb (mode % 3) 0) (eqb (mode % 3) 1)
  where
    go : (x y : Bool) → pick x a (pick y b c) ≤ k
    go true y = h
    go false true = i
    go false false = j

pub bands-le : (k : Kind) (mode : ℕ) → bands k mode ≤ 34
unfolding bands
bands-le k mode = go (is_phase k)
  where
    go : (b : Bool) → pick b (by_mode mode 5 11 17) (by_mode mode 10 20 34) ≤ 34
    go true = by_mode-le mode 5 11 17 34 (omega arith) (omega arith) (omega arith)
    go false = by_mode-le mode 10 20 34 34 (omega arith) (omega arith) (omega arith)

-- one of two numbers goes through the bits unchanged
pub pick_abs : (b : Bool) (x y : ℤ) (k : ℕ) → nat_abs x ≤ k → nat_abs y ≤ k → nat_abs (pick b x y) ≤ k
pick_abs true x y k h g = h
pick_abs false x y k h g = g

pub pick-fits : (b : Bool) {x y : ℤ} → SFits w8 x → SFits w8 y → SFits w8 (pick b x y)
pick-fits true f g = f
pick-fits false f g = g

-- a signed byte
pub byte_abs : (z : ℤ) → SFits w8 z → nat_abs z ≤ 128
byte_abs (pos n) f = let h : n < 2 ^ 7 = f.sfits in omega arith
byte_abs (negsuc n) f = let h : n < 2 ^ 7 = f.sfits in omega arith

-- a value goes through the bits unchanged, told by what it is
pub through : (w : Width) {x y : ℤ} (k : ℕ) → x ≡ y → nat_abs y ≤ k → k < 2 ^ hbits w → to_z w (of_z w x) ≡ y
through w k e h l = ap (λ (z : ℤ). to_z w (of_z w z)) e ∙ thru w k h l

-- a signed byte, widened
pub wide_is : (x : ℤ) → SFits w8 x → to_z w16 (of_z w16 (to_z w8 (of_z w8 x))) ≡ x
wide_is x f = widened w8 w16 128 x f (byte_abs x f) (omega arith)

-- the negation of a number below 0
pub neg_parts : (x : ℤ) → lt_z x (pos 0) ≡ true → T (non_neg (pos 0 -ℤ x)) × (nat_abs (pos 0 -ℤ x) ≡ nat_abs x)
neg_parts (pos n) e = absurd (true-false (ltb n 0) e (le-ltb n 0 (omega arith)))
neg_parts (negsuc n) e = (tt, omega arith)

-- what an index can be
pub least_abs : (k : Kind) (mode : ℕ) → nat_abs (least k mode) ≤ 15
unfolding least
least_abs Iid mode = pick_abs (fine mode) (negsuc 14) (negsuc 6) 15 (omega arith) (omega arith)
least_abs Icc mode = omega arith
least_abs Ipd mode = omega arith
least_abs Opd mode = omega arith

pub most_abs : (k : Kind) (mode : ℕ) → nat_abs (most k mode) ≤ 15
unfolding most
most_abs Iid mode = pick_abs (fine mode) (pos 15) (pos 7) 15 (omega arith) (omega arith)
most_abs Icc mode = omega arith
most_abs Ipd mode = omega arith
most_abs Opd mode = omega arith

pub within_abs : (low high x : ℤ) (k : ℕ) → nat_abs low ≤ k → nat_abs high ≤ k → within low high x ≡ true → nat_abs x ≤ k
unfolding within
within_abs low high x k h g e = let p = and_both (not (lt_z x low)) (not (lt_z high x)) e in go low high x h g p.0 p.1
  where
    go : (low high x : ℤ) → nat_abs low ≤ k → nat_abs high ≤ k → not (lt_z x low) ≡ true → not (lt_z high x) ≡ true → nat_abs x ≤ k
    go low (pos b) (pos n) h g e f = let l : n ≤ b = ltb-false b n (not-true (ltb b n) f) in omega arith
    go low (negsuc b) (pos n) h g e f = absurd (true-false false f refl)
    go (pos a) high (negsuc n) h g e f = absurd (true-false false e refl)
    go (negsuc a) high (negsuc n) h g e f = let l : n ≤ a = ltb-false a n (not-true (ltb a n) e) in omega arith

pub in_range_abs : (k : Kind) (mode : ℕ) (x : ℤ) → in_range k mode x ≡ true → nat_abs x ≤ 15
in_range_abs k mode x e = within_abs (least k mode) (most k mode) x 15 (least_abs k mode) (most_abs k mode) e

pub pos-by-kind : (k : Kind) (mode a b c d : ℕ) → by_kind k mode (pos a) (pos b) (pos c) (pos d) ≡ pos (by_kind k mode a b c d)
pos-by-kind Iid mode a b c d = go (fine mode)
  where
    go : (f : Bool) → pick f (pos a) (pos b) ≡ pos (pick f a b)
    go true = refl
    go false = refl
pos-by-kind Icc mode a b c d = refl
pos-by-kind Ipd mode a b c d = refl
pos-by-kind Opd mode a b c d = refl

pub middle-le : (k : Kind) (mode : ℕ) → middle k mode ≤ 30
unfolding middle
middle-le Iid mode = go (fine mode)
  where
    go : (b : Bool) → pick b 30 14 ≤ 30
    go true = omega arith
    go false = omega arith
middle-le Icc mode = omega arith
middle-le Ipd mode = omega arith
middle-le Opd mode = omega arith

pub ruleset middles = (pos-by-kind, middle-le)

-- the difference of an entry, and the sum
pub difference_abs : (k : Kind) (mode e : ℕ) → e ≤ 60 → nat_abs (pos e -ℤ pos (middle k mode)) ≤ 90
difference_abs k mode e h = abs_add (pos e) (neg_ℤ (pos (middle k mode))) 60 30 h (rw abs_neg (middle-le k mode))

pub added_abs : (k : Kind) (mode : ℕ) (x : ℤ) (e : ℕ) → e ≤ 60 → nat_abs x ≤ 128 → nat_abs (added k mode x e) ≤ 218
unfolding added
added_abs k mode x e h g = go (is_phase k)
  where
    go : (b : Bool) → nat_abs (pick b (pos ((nat_abs x + e) % 8)) (x +ℤ (pos e -ℤ pos (middle k mode)))) ≤ 218
    go true = omega arith
    go false = abs_add x (pos e -ℤ pos (middle k mode)) 128 90 g (difference_abs k mode e h)

-- the code's difference and sum
pub code-difference : (k : Kind) (mode e : ℕ) (m : ℤ) → e ≤ 60 → m ≡ pos (middle k mode)
    → to_z w16 e -ℤ to_z w16 (of_z w16 m) ≡ pos e -ℤ pos (middle k mode)
code-difference k mode e m h q = let l : e < 2 ^ 15 = omega arith in
    rw (to_z_pos w16 e l, through w16 30 q (middle-le k mode) (omega arith))

pub code_sum : (k : Kind) (mode e : ℕ) (x m : ℤ) → e ≤ 60 → SFits w8 x → m ≡ pos (middle k mode)
    → to_z w16 (of_z w16 (to_z w8 (of_z w8 x))) +ℤ to_z w16 (of_z w16 (to_z w16 e -ℤ to_z w16 (of_z w16 m)))
    ≡ x +ℤ (pos e -ℤ pos (middle k mode))
code_sum k mode e x m h f q = rw (wide_is x f, through w16 90 (code-difference k mode e m h q) (difference_abs k mode e h) (omega arith))

pub sum_abs : (k : Kind) (mode e : ℕ) (x : ℤ) → e ≤ 60 → SFits w8 x → nat_abs (x +ℤ (pos e -ℤ pos (middle k mode))) ≤ 218
sum_abs k mode e x h f = abs_add x (pos e -ℤ pos (middle k mode)) 128 90 (byte_abs x f) (difference_abs k mode e h)

-- the tables of differences have at most 61 words
abbrev few : List Table → Bool
few [] = true
few (t ∷ ts) = leb t.count 61 && few ts

few-at : (ts : List Table) → T (few ts) → (i : ℕ) → i < length ts → (get_or ts i no_table).count ≤ 61
few-at [] e i h = absurd (omega arith)
few-at (t ∷ ts) e zero h = leb→le t.count 61 (and_left (leb t.count 61) (few ts) e)
few-at (t ∷ ts) e (suc i) h = few-at ts (and_right (leb t.count 61) (few ts) e) i (omega arith)

-- the tables of differences are among the 22
pub table_below : (k : Kind) (mode time : ℕ) → difference_number k mode time < 22
unfolding difference_number first_number
table_below k mode time = go k (eqb time 1)
  where
    add : (n : ℕ) (t : Bool) → n < 21 → n + pick t 1 0 < 22
    add n true h = omega arith
    add n false h = omega arith

    first : (b : Bool) → pick b 14 12 < 21
    first true = omega arith
    first false = omega arith

    go : (k : Kind) (t : Bool) → first_number k mode + pick t 1 0 < 22
    go Iid t = add (pick (fine mode) 14 12) t (first (fine mode))
    go Icc t = add 16 t (omega arith)
    go Ipd t = add 18 t (omega arith)
    go Opd t = add 20 t (omega arith)

-- a table of differences by its number is the one by its name
pub table_is : (k : Kind) (mode time : ℕ) → table_at (difference_number k mode time) ≡ difference_table k mode time
unfolding difference_number first_number difference_table
table_is Iid mode time = go (fine mode) (eqb time 1)
  where
    go : (f t : Bool) → table_at (pick f 14 12 + pick t 1 0)
        ≡ pick f (pick t level_fine_time level_fine_frequency) (pick t level_default_time level_default_frequency)
    go true true = refl
    go true false = refl
    go false true = refl
    go false false = refl
table_is Icc mode time = go (eqb time 1)
  where
    go : (t : Bool) → table_at (16 + pick t 1 0) ≡ pick t coherence_time coherence_frequency
    go true = refl
    go false = refl
table_is Ipd mode time = go (eqb time 1)
  where
    go : (t : Bool) → table_at (18 + pick t 1 0) ≡ pick t phase_time phase_frequency
    go true = refl
    go false = refl
table_is Opd mode time = go (eqb time 1)
  where
    go : (t : Bool) → table_at (20 + pick t 1 0) ≡ pick t overall_phase_time overall_phase_frequency
    go true = refl
    go false = refl

-- what holds of each of the 22 tables holds of those of differences
pub of_table : (P : Table → Type 0) → ((i : ℕ) → i < 22 → P (table_at i)) → (k : Kind) (mode time : ℕ) → P (difference_table k mode time)
of_table P f k mode time = subst P (table_is k mode time) (f (difference_number k mode time) (table_below k mode time))

pub entry_le : (table : ℕ) (s : List ℕ) (at end e next : ℕ) → 12 ≤ table → table ≤ 21 → word_of (table_at table) s at end ≡ got e next
    → e ≤ 60
entry_le table s at end e next h g q =
    let t : 12 + (table - 12) ≡ table = omega arith in
    let f = few-at (drop 12 tables) tt (table - 12) (omega arith) in
    let n : (table_at table).count ≤ 61 = rw (get_or-drop 12 tables (table - 12) no_table, t) at f in
    let w = word_fit (codes_of (table_at table)) (lens_of (table_at table)) s at end e next q in
    let l = length-take (table_at table).count (drop (table_at table).first all_codes) in
    omega arith
