-- What follows from the one computed test of a table: the prefix rule, the Kraft sum, the reading laws, and that 11 never arises.
-- Assumes nothing.
use Prim.Native.Nat.{ℕ, ◌≤◌, ◌^◌}
use mathlib.Core.Path.{◌≡◌}
use mathlib.Core.Bool.{◌&&◌}
use mathlib.Core.List.{List}
use lib.Dec.{T, leb, eqb, leb→le, eqb→eq}
use lib.ListN.{length}
use Rattle.bits.specs.Reader.{refused}
use Rattle.bits.proofs.Bools.{and_left, and_right}
use Rattle.bits.proofs.Lawful.{Lawful}
use Rattle.words.specs.Words.{word}
use Rattle.words.specs.Table.{prefix_free, sized, kraft, longest, complete_at, complete}
use Rattle.words.proofs.WordLaws.{never_11, word-lawful}

pub record Complete (m : ℕ) (codes lens : List ℕ) : Type 0 where
  pub same : length codes ≡ length lens
  pub short : m ≤ 20
  pub size : T (sized m codes lens)
  pub free : T (prefix_free codes lens)
  pub full : kraft m lens ≡ 2 ^ m

parts : (m : ℕ) (codes lens : List ℕ) → T (complete_at m codes lens) → Complete m codes lens
parts m codes lens t =
    let a = eqb (length codes) (length lens) in
    let b = leb m 20 in
    let c = sized m codes lens in
    let d = prefix_free codes lens in
    let e = eqb (kraft m lens) (2 ^ m) in
    let abcd = and_left (a && b && c && d) e t in
    let abc = and_left (a && b && c) d abcd in
    let ab = and_left (a && b) c abc in
    record {
      same = eqb→eq (length codes) (length lens) (and_left a b ab);
      short = leb→le m 20 (and_right a b ab);
      size = and_right (a && b) c abc;
      free = and_right (a && b && c) d abcd;
      full = eqb→eq (kraft m lens) (2 ^ m) (and_right (a && b && c && d) e t);
    }

module _ (codes lens : List ℕ) (t : T (complete codes lens)) where
  pub complete-parts : Complete (longest lens) codes lens
  complete-parts = parts (longest lens) codes lens t

  pub complete-never-11 : (s : List ℕ) (at end p : ℕ) → word codes lens s at end ≡ refused 11 p → ⊥
  complete-never-11 = let c = complete-parts in never_11 (longest lens) codes lens c.same c.size c.free c.full

  pub complete-lawful : Lawful (word codes lens)
  complete-lawful = word-lawful codes lens complete-parts.free
