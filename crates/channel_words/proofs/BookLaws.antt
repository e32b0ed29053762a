-- The table of the books: its rows come in pairs, and what is known of the spectral ones.
-- Assumes nothing.
use Prim.Native.Nat.{ℕ, suc, ◌-◌, ◌≤◌, ◌<◌}
use mathlib.Core.Path.{◌≡◌, refl, sym, ◌∙◌}
use mathlib.Core.List.{List}
use native.Mathlib.Omega.{arith}
use native.Mathlib.Decide.{dec_le}
use lib.ListN.{get_or-eq_default}
use Rattle.bits.proofs.Spelt.{every-at}
use Rattle.tables.specs.InnerLent.{lookups_for, lookup_at, elements}
use Rattle.tables.specs.declared.Lookup.{Lookup}
use Rattle.tables.proofs.RunLaws.{run_length}
use Rattle.tables.proofs.WordNear.{word-inside}
use Rattle.tables.proofs.LentLaws.{lies-of, looked-of}
use Rattle.channel_words.specs.InnerWords.{BookLookup}
use Rattle.channel_words.specs.Tuple.{spectral_word}
use Rattle.channel_words.specs.Books.{Book, book, silent_book, books, book_of}

-- what holds of a number and of the next one holds of either
either : (P : ℕ → Type 0) (k n : ℕ) → P k → P (suc k) → k ≤ n → n ≤ suc k → P n
either P k n a b h g =
    elim (dec_le n k) [
      | yes d ↦ let q : n ≡ k = omega arith in rw q a
      | no d ↦ let q : n ≡ suc k = omega arith in rw q b
    ]

-- two books that follow each other have the same row, but for the number
pub pair_is : {dim base offset : ℕ} (k : ℕ) {n : ℕ} → book k dim base offset ≡ book_of k → book (suc k) dim base offset ≡ book_of (suc k)
    → k ≤ n → n ≤ suc k → book n dim base offset ≡ book_of n
pair_is {dim} {base} {offset} k {n} a b h g = either (λ n. book n dim base offset ≡ book_of n) k n a b h g

pub no_book : {n : ℕ} → n ≡ 0 → silent_book ≡ book_of n
unfolding book_of books
no_book e = rw e

pub past_books : (n : ℕ) → 11 < n → silent_book ≡ book_of n
unfolding book_of books
past_books n h = sym (get_or-eq_default books silent_book h)

-- a row of the books from 1 to 11
abbrev pub Spectral : Book → Type 0
Spectral b =
    (1 ≤ b.number)
    × (b.number ≤ 11)
    × (2 ≤ b.dim)
    × (b.dim ≤ 4)
    × (1 ≤ b.base)
    × (b.base ≤ 17)
    × (b.offset ≤ 4)

abbrev Sound : Book → Type 0
Sound b = (b.dim ≡ 0 → ⊥) → Spectral b

-- a book that is not silent is a row from 1 to 11
pub spectral-book : (n : ℕ) → Sound (book_of n)
unfolding book_of books
spectral-book n =
    every-at Sound books n silent_book (
      λ h. absurd (h refl),
      (
        λ h. omega arith,
        (
          λ h. omega arith,
          (
            λ h. omega arith,
            (
              λ h. omega arith,
              (
                λ h. omega arith,
                (
                  λ h. omega arith,
                  (λ h. omega arith, (λ h. omega arith, (λ h. omega arith, (λ h. omega arith, (λ h. omega arith, tt))))),
                ),
              ),
            ),
          ),
        ),
      ),
    )
    (λ h. absurd (h refl))

-- the lookup of a spectral book reads its words, each of which lies before the end
pub book-lookup : (number : ℕ) → 1 ≤ number → number ≤ 11 → {lookups : List ℕ} {l : Lookup} → lookups ≡ lookups_for number
    → l ≡ lookup_at number
    → BookLookup (elements lookups l) l.bits number
unfolding spectral_word
book-lookup number h g {lookups} {l} lent q =
    let lies = lies-of number (omega arith) lent q in
    let n = run_length lookups l.first (l.last - l.first) (omega (arith, lies.0, lies.1)) in
    let reads = looked-of number (omega arith) lent q in
    record {
      readable = record {
        narrow = lies.2;
        enough = omega (arith, lies.3);
        inside = λ s at end entry next e. word-inside number s at end entry next (sym (reads s at end) ∙ e);
      };
      reads = reads;
    }
