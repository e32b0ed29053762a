-- A word of a table takes 20 bits at most, and is found in them: where that many are there, the end does not count.
-- Assumes nothing.
use Prim.Native.Nat.{ℕ, ◌+◌, ◌-◌, ◌<◌, ◌≤◌, ◌^◌}
use mathlib.Core.Path.{◌≡◌, refl, ap}
use mathlib.Core.List.{List, [], ◌∷◌}
use mathlib.Core.Bool.{Bool, false, ◌&&◌, ◌||◌}
use native.Mathlib.Omega.{arith}
use borrow.Author.Tests.{le-leb, le-ltb}
use lib.Dec.{T, leb, ltb, eqb, leb→le}
use Rattle.bits.specs.Bits.{bits_from}
use Rattle.bits.specs.Reader.{got, pick}
use Rattle.bits.proofs.Bools.{and_left, and_right}
use Rattle.words.specs.Words.{fits, cut_off, scan, word}
use Rattle.words.specs.Table.{sized}
use Rattle.words.proofs.CompleteLaws.{complete-parts}
use Rattle.words.proofs.WordLaws.{word_fit, word_room}
use Rattle.tables.specs.GeneratedWords.{all_lens}
use Rattle.tables.specs.Tables.{codes_of, lens_of, word_of}
use Rattle.tables.specs.GeneratedNames.{table_at}
use Rattle.tables.proofs.RunLaws.{lens-count, run_length, run_sizes}
use Rattle.tables.proofs.PlaceLaws.{place_in}
use Rattle.tables.proofs.Rules.{ruled-at}
use Rattle.bits.proofs.NearLaws.{Near}

scan-same : (m : ℕ) (cs ls : List ℕ) (i : ℕ) (short : Bool) (s : List ℕ) (at end end' : ℕ) → T (sized m cs ls) → at + m ≤ end
    → at + m ≤ end'
    → scan cs ls i short s at end ≡ scan cs ls i short s at end'
unfolding scan fits cut_off
scan-same m [] ls i short s at end end' t h k = refl
scan-same m (c ∷ cs) [] i short s at end end' t h k = refl
scan-same m (c ∷ cs) (l ∷ ls) i short s at end end' t h k =
    let a = leb l m in
    let b = ltb c (2 ^ l) in
    let d = leb→le l m (and_left a b (and_left (a && b) (sized m cs ls) t)) in
    let u : l ≤ end - at = omega arith in
    let v : l ≤ end' - at = omega arith in
    rw (le-leb l (end - at) u, le-leb l (end' - at) v, le-ltb (end - at) l u, le-ltb (end' - at) l v)
    (ap (pick (eqb (bits_from s at l) c) (got i (at + l)))
    (scan-same m cs ls (i + 1) (short || false) s at end end' (and_right (a && b) (sized m cs ls) t) h k))

-- a word that is read lies before the end, and its entry is the table's
pub word-inside : (i : ℕ) (s : List ℕ) (at end k next : ℕ) → word_of (table_at i) s at end ≡ got k next
    → (at ≤ next) × (next ≤ end) × (next ≤ at + 20) × (k < (table_at i).count)
word-inside i s at end k next e =
    let w = word_fit (codes_of (table_at i)) (lens_of (table_at i)) s at end k next e in
    let r = word_room (codes_of (table_at i)) (lens_of (table_at i)) s at end k next e in
    let n = run_length all_lens (table_at i).first (table_at i).count (omega (arith, lens-count, place_in i)) in
    let c : k < (table_at i).count = omega (arith, w.1) in
    let l = run_sizes (table_at i).first (table_at i).count k (place_in i) c in
    (omega (arith, w.3), omega (arith, w.3), omega (arith, w.3), c)

pub word-near : (i : ℕ) → i < 22 → Near 20 (word_of (table_at i))
unfolding word
word-near i h =
    let c = complete-parts (codes_of (table_at i)) (lens_of (table_at i)) (ruled-at i h) in record {
      law = λ s at end next k e. omega (arith, (word-inside i s at end k next e).2);
      same = λ s at end end' a b.
          scan-same _ (codes_of (table_at i)) (lens_of (table_at i)) 0 false s at end end' c.size
          (omega (arith, c.short)) (omega (arith, c.short));
    }
