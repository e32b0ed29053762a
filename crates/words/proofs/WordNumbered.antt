-- The numbers that a word is refused with: 10 and 11; of a complete table 10 alone. And those of the escape: 10 and 26.
-- Assumes nothing.
use Prim.Native.Nat.{ℕ, zero, suc, ◌+◌}
use mathlib.Core.Path.{◌≡◌, sym, ◌∙◌, ap, subst}
use mathlib.Core.List.{List}
use mathlib.Core.Bool.{Bool, true, false}
use mathlib.Core.Logic.{inl, inr}
use lib.Dec.{T, eqb}
use Rattle.bits.specs.Reader.{refused}
use Rattle.bits.specs.Field.{field}
use Rattle.bits.proofs.Numbered.{Numbered, bind-numbered, field-numbered, give-numbered, refusing-numbered, pick-numbered}
use Rattle.bits.proofs.Numbered.{one_field-numbered}
use Rattle.words.specs.Words.{word}
use Rattle.words.specs.Table.{complete}
use Rattle.words.specs.Escape.{ones, magnitude, escape}
use Rattle.words.proofs.CompleteLaws.{complete-never-11}
use Rattle.words.proofs.ScanAnswers.{scan-refused}

pub word-numbered : (among : ℕ → Bool) → among 10 ≡ true → (cs ls : List ℕ) → T (complete cs ls) → Numbered among (word cs ls)
unfolding word
word-numbered among o cs ls t = record {
  law = λ s at end n p e.
      elim (scan-refused cs ls 0 false s at end n p e).1 [
        | inl z ↦ subst (λ (k : ℕ). among k ≡ true) (sym z) o
        | inr z ↦ absurd (complete-never-11 cs ls t s at end p (e ∙ ap (λ (k : ℕ). refused k p) z))
      ];
}

ones-numbered : (among : ℕ → Bool) → among 10 ≡ true → among 26 ≡ true → (k n : ℕ) → Numbered among (ones k n)
unfolding ones
ones-numbered among o q zero n = refusing-numbered among 26 (λ at. at) q
ones-numbered among o q (suc k) n =
    bind-numbered among (field 1) _ (field-numbered among o 1)
    (λ one. pick-numbered among (eqb one 1) _ _ (ones-numbered among o q k (n + 1)) (give-numbered among n))

pub escape-numbered : (among : ℕ → Bool) → among 10 ≡ true → among 26 ≡ true → Numbered among escape
unfolding escape
escape-numbered among o q =
    one_field-numbered among _ (bind-numbered among (ones 9 0) _ (ones-numbered among o q 9 0) λ n.
    bind-numbered among (field (n + 4)) _ (field-numbered among o (n + 4)) λ v. give-numbered among (magnitude n v))
