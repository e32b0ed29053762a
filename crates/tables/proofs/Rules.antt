-- The rules of the 22 tables, computed once over each whole table; and what follows for each: the prefix rule, the reading and writing
-- laws, and that 11 cannot arise.
-- Assumes nothing.
use Prim.Native.Nat.{ℕ, zero, suc, ◌<◌}
use mathlib.Core.Path.{◌≡◌}
use mathlib.Core.Bool.{Bool, true, ◌&&◌}
use mathlib.Core.List.{List, [], ◌∷◌}
use native.Mathlib.Omega.{arith}
use native.Mathlib.Nat.{not-suc-le-zero}
use lib.Dec.{T}
use native.Mathlib.Decide.{dec_lt}
use lib.ListN.{length, get_or, get_or-eq_default}
use Rattle.bits.specs.Reader.{refused}
use Rattle.bits.proofs.Bools.{and_left, and_right}
use Rattle.bits.proofs.Lawful.{Lawful}
use Rattle.bits.proofs.Spelt.{Spelt}
use Rattle.bits.proofs.Back.{Back}
use Rattle.words.specs.Table.{prefix_free}
use Rattle.words.proofs.WordLaws.{word-lawful, word-spelt, word_back}
use Rattle.words.proofs.CompleteLaws.{complete-parts, complete-never-11}
use Rattle.tables.specs.GeneratedWords.{all_codes, all_lens}
use Rattle.tables.specs.Tables.{Table, codes_of, lens_of, word_of, spell_word, ruled}
use Rattle.tables.specs.GeneratedNames.{tables, no_table, table_at}

-- a test holds of every table of a list
abbrev pub every : (Table → Bool) → List Table → Bool
every ok [] = true
every ok (t ∷ ts) = ok t && every ok ts

pub every-at : (ok : Table → Bool) (ts : List Table) → T (every ok ts) → (i : ℕ) → i < length ts → T (ok (get_or ts i no_table))
every-at ok [] e i h = absurd (not-suc-le-zero h)
every-at ok (t ∷ ts) e zero h = and_left (ok t) (every ok ts) e
every-at ok (t ∷ ts) e (suc i) h = every-at ok ts (and_right (ok t) (every ok ts) e) i (omega arith)

-- the test, computed
all-ruled : T (every ruled tables)
unfolding all_codes all_lens
all-ruled = tt

pub ruled-at : (i : ℕ) → i < 22 → T (ruled (table_at i))
ruled-at i h = every-at ruled tables all-ruled i h

-- 11 cannot arise
pub no_11 : (i : ℕ) → i < 22 → (s : List ℕ) (at end p : ℕ) → word_of (table_at i) s at end ≡ refused 11 p → ⊥
no_11 i h = complete-never-11 (codes_of (table_at i)) (lens_of (table_at i)) (ruled-at i h)

-- the prefix rule; past the last table there is no word to break it
pub free-at : (i : ℕ) → T (prefix_free (codes_of (table_at i)) (lens_of (table_at i)))
free-at i =
    elim (dec_lt i 22) [
      | yes h ↦ (complete-parts (codes_of (table_at i)) (lens_of (table_at i)) (ruled-at i h)).free
      | no h ↦ rw (get_or-eq_default tables no_table {n = i} (omega arith)) tt
    ]

pub lawful-at : (i : ℕ) → Lawful (word_of (table_at i))
lawful-at i = word-lawful (codes_of (table_at i)) (lens_of (table_at i)) (free-at i)

pub spelt-at : (i : ℕ) → Spelt (word_of (table_at i)) [] (spell_word (table_at i))
    (λ k. (k < length (codes_of (table_at i))) × (k < length (lens_of (table_at i))))
spelt-at i = word-spelt (codes_of (table_at i)) (lens_of (table_at i))

pub back_at : (i k : ℕ) → k < length (codes_of (table_at i)) → k < length (lens_of (table_at i))
    → Back (word_of (table_at i)) k (spell_word (table_at i) k)
back_at i k = word_back (codes_of (table_at i)) (lens_of (table_at i)) k (free-at i)
