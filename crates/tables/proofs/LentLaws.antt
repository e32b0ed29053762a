-- What is lent holds the tables: one test of each table's lookup, and one of each table's words, are computed.
-- Assumes nothing.
use Prim.Native.Nat.{ℕ, suc, ◌+◌, ◌-◌, ◌/◌, ◌%◌, ◌<◌, ◌≤◌}
use mathlib.Core.Path.{◌≡◌, refl, sym, ◌∙◌, ap₂, subst}
use mathlib.Core.Bool.{Bool, ◌&&◌}
use mathlib.Core.List.{List, [], ◌∷◌}
use native.Mathlib.Omega.{arith}
use lib.Dec.{T, leb, ltb, eqb, leb→le, ltb→lt, eqb→eq}
use lib.ListN.{length, get_or, get_or-eq_default}
use borrow.Author.Tests.{lt-ltb, le-ltb}
use Rattle.bits.specs.Pieces.{piece}
use Rattle.bits.proofs.Bools.{and_left, and_right}
use Rattle.words.specs.InnerLookup.{looked, all_below, right_lookup}
use Rattle.words.proofs.LookupLaws.{all-at, lookup-parts, looked-is}
use Rattle.tables.specs.GeneratedWords.{all_codes, all_lens}
use Rattle.tables.specs.InnerGenerated.{channel_lookups, stereo_lookups, stereo_words}
use Rattle.tables.specs.GeneratedNames.{table_at}
use Rattle.tables.specs.declared.Lookup.{Lookup}
use Rattle.tables.specs.Tables.{codes_of, lens_of, word_of, spell_word}
use Rattle.tables.specs.InnerLent.{lookups_for, part_of, first_bits, lookup_at, elements, Lies}
use Rattle.tables.proofs.RunLaws.{run_length, codes-count, lens-count}
use Rattle.tables.proofs.PlaceLaws.{place_in}
use Rattle.tables.proofs.Rules.{free-at}

-- a table's lookup lies in what is lent, and is right
abbrev lying : ℕ → Bool
lying t =
    ltb (suc (part_of t)) (length (lookups_for t)) && leb (lookup_at t).first (lookup_at t).last
    && leb (lookup_at t).last (length (lookups_for t))

abbrev right : ℕ → Bool
right t = right_lookup (lookup_at t).bits (elements (lookups_for t) (lookup_at t)) (codes_of (table_at t)) (lens_of (table_at t))

-- the tests, computed
all-lying : T (all_below 22 lying)
unfolding lookups_for lookup_at channel_lookups stereo_lookups
all-lying = tt

all_right : T (all_below 22 right)
unfolding lookups_for lookup_at channel_lookups stereo_lookups all_codes all_lens
all_right = tt

module _ (t : ℕ) (h : t < 22) where
  pub part_in : suc (part_of t) < length (lookups_for t)
  part_in =
      let a = ltb (suc (part_of t)) (length (lookups_for t)) in
      let b = leb (lookup_at t).first (lookup_at t).last in
      let c = leb (lookup_at t).last (length (lookups_for t)) in
      ltb→lt _ _ (and_left a b (and_left (a && b) c (all-at 22 lying all-lying t h)))

  pub lookup-lies : Lies (lookups_for t) (lookup_at t)
  lookup-lies =
      let a = ltb (suc (part_of t)) (length (lookups_for t)) in
      let b = leb (lookup_at t).first (lookup_at t).last in
      let c = leb (lookup_at t).last (length (lookups_for t)) in
      let abc = all-at 22 lying all-lying t h in
      let first : (lookup_at t).first ≤ (lookup_at t).last = leb→le _ _ (and_right a b (and_left (a && b) c abc)) in
      let last : (lookup_at t).last ≤ length (lookups_for t) = leb→le _ _ (and_right (a && b) c abc) in
      let p = lookup-parts (lookup_at t).bits (elements (lookups_for t) (lookup_at t)) (codes_of (table_at t)) (lens_of (table_at t))
      (all-at 22 right all_right t h) in
      let n = run_length (lookups_for t) (lookup_at t).first ((lookup_at t).last - (lookup_at t).first) (omega arith) in
      (first, last, p.narrow, omega (arith, p.enough))

  -- a lookup reads its table's words
  pub looked-at : (s : List ℕ) (at end : ℕ)
      → looked (elements (lookups_for t) (lookup_at t)) (lookup_at t).bits s at end ≡ word_of (table_at t) s at end
  looked-at =
      looked-is (lookup_at t).bits (elements (lookups_for t) (lookup_at t)) (codes_of (table_at t)) (lens_of (table_at t))
      (all-at 22 right all_right t h) (free-at t)

  -- the same of what a function is lent, and of the lookup that it found
  module _ {lookups : List ℕ} (p : lookups ≡ lookups_for t) where
    -- the table's part has a place in front, and so has the next
    pub places-in : {part : ℕ} → part ≡ part_of t → part + 1 < length lookups
    places-in e = rw (p, e) (let h = part_in in omega arith)

    -- the code's three numbers are the lookup
    pub lookup-found : {part first last bits : ℕ} → part ≡ part_of t → first ≡ get_or lookups part 0 → last ≡ get_or lookups (part + 1) 0
        → bits ≡ first_bits t → record { first = first; last = last; bits = bits } ≡ lookup_at t
    unfolding lookup_at
    lookup-found {part} e f l b =
        let next : part + 1 ≡ suc (part_of t) = omega arith in
        rw (f ∙ ap₂ (λ (s : List ℕ) (i : ℕ). get_or s i 0) p e, l ∙ ap₂ (λ (s : List ℕ) (i : ℕ). get_or s i 0) p next, b)

    module _ {l : Lookup} (q : l ≡ lookup_at t) where
      pub lies-of : Lies lookups l
      lies-of = subst (λ (x : List ℕ). Lies x l) (sym p) (subst (λ (x : Lookup). Lies (lookups_for t) x) (sym q) lookup-lies)

      pub looked-of : (s : List ℕ) (at end : ℕ) → looked (elements lookups l) l.bits s at end ≡ word_of (table_at t) s at end
      looked-of s at end =
          ap₂ (λ (x : List ℕ) (y : Lookup). looked (elements x y) y.bits s at end) p q ∙ looked-at s at end

-- the tables of either half are those of whoever reads one of them
pub channel_half : (t : ℕ) → t < 12 → channel_lookups ≡ lookups_for t
unfolding lookups_for
channel_half t h = rw (lt-ltb _ _ h)

pub stereo-half : (t : ℕ) → 12 ≤ t → stereo_lookups ≡ lookups_for t
unfolding lookups_for
stereo-half t h = rw (le-ltb _ _ h)

-- where the words of a stereo table start, and where they end
abbrev pub first_word : ℕ → ℕ
first_word i = get_or stereo_words i 0

-- an entry's word is the table's
abbrev same_word : ℕ → ℕ → Bool
same_word i k =
    eqb (get_or stereo_words (first_word i + k) 0 / 32) (get_or (codes_of (table_at (i + 12))) k 0)
    && eqb (get_or stereo_words (first_word i + k) 0 % 32) (get_or (lens_of (table_at (i + 12))) k 0)
    && leb (get_or stereo_words (first_word i + k) 0 % 32) 20

abbrev spelled : ℕ → Bool
spelled i =
    eqb (first_word (suc i)) (first_word i + (table_at (i + 12)).count) && leb (first_word (suc i)) 253
    && all_below (table_at (i + 12)).count (same_word i)

all-spelled : T (all_below 10 spelled)
unfolding stereo_words all_codes all_lens
all-spelled = tt

pub words_count : length stereo_words ≡ 253
unfolding stereo_words
words_count = refl

module _ (i : ℕ) (h : i < 10) where
  spelled-parts : (first_word (suc i) ≡ first_word i + (table_at (i + 12)).count) × (first_word (suc i) ≤ 253)
      × T (all_below (table_at (i + 12)).count (same_word i))
  spelled-parts =
      let a = eqb (first_word (suc i)) (first_word i + (table_at (i + 12)).count) in
      let b = leb (first_word (suc i)) 253 in
      let c = all_below (table_at (i + 12)).count (same_word i) in
      let t = all-at 10 spelled all-spelled i h in
      let ab = and_left (a && b) c t in
      (eqb→eq _ _ (and_left a b ab), leb→le _ _ (and_right a b ab), and_right (a && b) c t)

  -- the words of a table stand in what is lent, as many as there are
  pub words-in : (first_word (suc i) ≡ first_word i + (table_at (i + 12)).count) × (first_word (suc i) ≤ 253)
  words-in = (spelled-parts.0, spelled-parts.1)

  -- an entry that there is
  pub entry_is : (k : ℕ) → k < (table_at (i + 12)).count
      → let w = get_or stereo_words (first_word i + k) 0 in
      (piece (w / 32) (w % 32) ∷ [] ≡ spell_word (table_at (i + 12)) k) × (w % 32 ≤ 20)
  entry_is k g =
      let w = get_or stereo_words (first_word i + k) 0 in
      let a = eqb (w / 32) (get_or (codes_of (table_at (i + 12))) k 0) in
      let b = eqb (w % 32) (get_or (lens_of (table_at (i + 12))) k 0) in
      let c = leb (w % 32) 20 in
      let t = all-at (table_at (i + 12)).count (same_word i) spelled-parts.2 k g in
      let ab = and_left (a && b) c t in (
        ap₂ (λ (x y : ℕ). piece x y ∷ []) (eqb→eq _ _ (and_left a b ab)) (eqb→eq _ _ (and_right a b ab)),
        leb→le _ _ (and_right (a && b) c t),
      )

-- one that there is not
pub no_entry : (t k : ℕ) → (table_at t).count ≤ k → piece 0 0 ∷ [] ≡ spell_word (table_at t) k
no_entry t k h =
    let a = run_length all_codes (table_at t).first (table_at t).count (omega (arith, codes-count, place_in t)) in
    let b = run_length all_lens (table_at t).first (table_at t).count (omega (arith, lens-count, place_in t)) in
    ap₂ (λ (x y : ℕ). piece x y ∷ [])
    (sym (get_or-eq_default (codes_of (table_at t)) 0 {n = k} (omega arith)))
    (sym (get_or-eq_default (lens_of (table_at t)) 0 {n = k} (omega arith)))

-- what a writer knows of a table in what he is lent
module _ {words : List ℕ} (lent : words ≡ stereo_words) (t : ℕ) (low : 12 ≤ t) (high : t < 22) where
  back : t - 12 + 12 ≡ t
  back = omega arith

  -- where the table's words begin and end
  pub stands : (length words ≡ 253) × (get_or words (t - 11) 0 ≡ get_or words (t - 12) 0 + (table_at t).count)
      × (get_or words (t - 11) 0 ≤ 253)
  stands =
      let next : t - 11 ≡ suc (t - 12) = omega arith in
      let h = words-in (t - 12) (omega arith) in
      let s = subst (λ (x : ℕ). (first_word (suc (t - 12)) ≡ first_word (t - 12) + (table_at x).count)
      × (first_word (suc (t - 12)) ≤ 253)) back h in
      (rw lent words_count, rw (lent, next) s.0, rw (lent, next) s.1)

  -- the word of an entry
  pub entry_at : (k : ℕ) → k < (table_at t).count
      → let w = get_or words (get_or words (t - 12) 0 + k) 0 in (piece (w / 32) (w % 32) ∷ [] ≡ spell_word (table_at t) k) × (w % 32 ≤ 20)
  entry_at k h =
      let g : k < (table_at (t - 12 + 12)).count = rw back h in
      rw lent (subst (λ (x : ℕ). let w = get_or stereo_words (first_word (t - 12) + k) 0 in
      (piece (w / 32) (w % 32) ∷ [] ≡ spell_word (table_at x) k)
      × (w % 32 ≤ 20)) back (entry_is (t - 12) (omega arith) k g))
