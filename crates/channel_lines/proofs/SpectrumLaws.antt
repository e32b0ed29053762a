-- What the code of the lines cites: a band, a band of some windows, and the lines of the groups.
-- Assumes nothing.
use Rattle.bits.proofs.Lawful.{after-give}
use Prim.Native.Nat.{ℕ, ◌+◌, ◌*◌, ◌-◌, ◌/◌, ◌≤◌}
use mathlib.Core.Path.{◌≡◌, refl, sym, ◌∙◌, ap}
use mathlib.Core.List.{List, ◌∷◌}
use mathlib.Core.Bool.{Bool, false}
use native.Mathlib.Omega.{arith}
use lib.Dec.{eqb}
use lib.ListN.{replicate}
use lib.IntN.{ℤ, pos}
use Rattle.bits.specs.Reader.{Answer, Reader, got, refused, give, after, ◌>>=◌}
use Rattle.bits.specs.Loop.{counted}
use Rattle.bits.proofs.LoopLaws.{counted_same}
use Rattle.channel_words.specs.Books.{book, silent_book, books, book_of}
use Rattle.channel_bands.specs.Grouping.{groups_after, groups_of}
use Rattle.channel_words.proofs.MagnitudeLaws.{no-escape}
use Rattle.channel_words.specs.InnerWords.{kind, values_by, put_by, words_by, put_escaped, escaped_by}
use Rattle.channel_words.specs.Tuple.{spectral_word, digit, value, escaped, tuple, put}
use Rattle.channel_lines.specs.Spectrum.{band_word, band, window_band, windows_band, group_band, group_lines}

-- what follows a reading that another follows
after-after : {A B C : Type 0} (a : Answer A) (f : A → Reader B) (g : B → Reader C) (s : List ℕ) (end : ℕ)
    → after (after a f s end) g s end ≡ after a (λ x. f x >>= g) s end
after-after (got x m) f g s end = refl
after-after (refused n p) f g s end = refl

-- a word of a band, by a reader of its book's entries
module _ (word : Reader ℕ) (first t : ℕ) (lines : List ℤ) (s : List ℕ) (at end : ℕ) where
  word-by : (number dim base offset : ℕ) → eqb number 11 ≡ false → word s at end ≡ spectral_word number s at end
      → words_by word (kind dim base offset) first t lines s at end ≡ band_word (book number dim base offset) first t lines s at end
  unfolding band_word tuple put_by values_by value digit
  word-by number dim base offset n e = rw (e, n) (go (spectral_word number s at end))
    where
      go : (a : Answer ℕ)
          → after (after a (λ entry. counted 0 dim (value (kind dim base offset) entry) (replicate 4 (pos 0))) s end)
          (λ vs. give (put lines (first + t * dim) dim vs)) s end
          ≡ after (after a (λ entry. counted 0 dim (value (kind dim base offset) entry) (replicate 4 (pos 0)) >>= give) s end)
          (λ vs. give (put lines (first + t * dim) dim vs)) s end
      go (got entry m) =
          ap (λ x. after x (λ vs. give (put lines (first + t * dim) dim vs)) s end)
          (sym (after-give (counted 0 dim (value (kind dim base offset) entry) (replicate 4 (pos 0)) s m end) s end))
      go (refused k p) = refl

  escape-by : word s at end ≡ spectral_word 11 s at end
      → escaped_by word 17 first t lines s at end ≡ band_word (book 11 2 17 0) first t lines s at end
  unfolding band_word tuple put_escaped values_by value digit
  escape-by e = rw e (go (spectral_word 11 s at end))
    where
      go : (a : Answer ℕ)
          → after (after a (λ entry. counted 0 2 (value (kind 2 17 0) entry) (replicate 4 (pos 0))) s end)
          (λ vs. counted 0 2 escaped vs >>= λ us. give (put lines (first + t * 2) 2 us)) s end
          ≡ after (after a (λ entry. counted 0 2 (value (kind 2 17 0) entry) (replicate 4 (pos 0)) >>= counted 0 2 escaped) s end)
          (λ us. give (put lines (first + t * 2) 2 us)) s end
      go (got entry m) =
          sym (after-after (counted 0 2 (value (kind 2 17 0) entry) (replicate 4 (pos 0)) s m end) (counted 0 2 escaped)
          (λ us. give (put lines (first + t * 2) 2 us)) s end)
      go (refused k p) = refl

-- the words of a band, by a reader of its book's entries
module _ (word : Reader ℕ) (number first width : ℕ) (lines : List ℤ) (s : List ℕ) (at end : ℕ)
    (reads : (s : List ℕ) (at end : ℕ) → word s at end ≡ spectral_word number s at end) where
  pub band-by : (dim base offset : ℕ) → book number dim base offset ≡ book_of number → eqb dim 0 ≡ false → eqb number 11 ≡ false
      → counted 0 (width / dim) (words_by word (kind dim base offset) first) lines s at end
      ≡ band (book_of number) first width lines s at end
  unfolding band
  band-by dim base offset b z n =
      rw (← b, z)
      (counted_same (words_by word (kind dim base offset) first) (band_word (book number dim base offset) first)
      (λ t x s at end. word-by word first t x s at end number dim base offset n (reads s at end)) 0 (width / dim) lines s at end)

  -- the words of unsigned pairs: those of fewer numbers than 17 have no escapes
  pub band-pairs : (base : ℕ) → 1 ≤ base → base ≤ 16 → book number 2 base 0 ≡ book_of number → eqb number 11 ≡ false
      → counted 0 (width / 2) (escaped_by word base first) lines s at end ≡ band (book_of number) first width lines s at end
  band-pairs base low high b n =
      counted_same (escaped_by word base first) (words_by word (kind 2 base 0) first)
      (λ t x s at end. no-escape word base low high (first + t * 2) x s at end) 0 (width / 2) lines s at end
      ∙ band-by 2 base 0 b refl n

  pub band-escaped : number ≡ 11
      → counted 0 (width / 2) (escaped_by word 17 first) lines s at end ≡ band (book_of number) first width lines s at end
  unfolding band book_of books
  band-escaped e =
      rw e
      (counted_same (escaped_by word 17 first) (band_word (book 11 2 17 0) first)
      (λ t x s at end. escape-by word first t x s at end (rw (← e) (reads s at end))) 0 (width / 2) lines s at end)

-- a silent book sends nothing
pub band-silent : (number first width : ℕ) (lines : List ℤ) (s : List ℕ) (at end : ℕ) → silent_book ≡ book_of number
    → got lines at ≡ band (book_of number) first width lines s at end
unfolding band
band-silent number first width lines s at end e = rw (← e)

pub windows-start : (book first width from n : ℕ) (lines : List ℤ) (s : List ℕ) (at end : ℕ)
    → windows_band book first width from n lines s at end ≡ counted from (from + n - from) (window_band book first width) lines s at end
unfolding windows_band
windows-start book first width from n lines s at end = let q : from + n - from ≡ n = omega arith in rw q

module _ (edges : List ℕ) (max_sfb : ℕ) (books : List ℕ) (bits base from : ℕ) (lines : List ℤ) (s : List ℕ) (at end : ℕ) where
  pub lines-stop : (n r p : ℕ) → groups_after (8 - from) bits ≡ n ∷ groups_after (8 - (from + n)) bits
      → counted 0 max_sfb (group_band edges books base from n) lines s at end ≡ refused r p
      → group_lines edges max_sfb books (groups_after (8 - from) bits) base from lines s at end ≡ refused r p
  unfolding group_lines
  lines-stop n r p q e = rw (q, e)

  pub lines_more : (n m : ℕ) (ls : List ℤ) → groups_after (8 - from) bits ≡ n ∷ groups_after (8 - (from + n)) bits
      → counted 0 max_sfb (group_band edges books base from n) lines s at end ≡ got ls m
      → group_lines edges max_sfb books (groups_after (8 - from) bits) base from lines s at end
      ≡ group_lines edges max_sfb books (groups_after (8 - (from + n)) bits) (base + max_sfb) (from + n) ls s m end
  unfolding group_lines
  lines_more n m ls q e = ap (λ (gs : List ℕ). group_lines edges max_sfb books gs base from lines s at end) q ∙ rw e

  pub lines-done : 8 ≤ from → group_lines edges max_sfb books (groups_after (8 - from) bits) base from lines s at end ≡ got lines at
  unfolding group_lines groups_after
  lines-done h = let q : 8 - from ≡ 0 = omega arith in rw q

pub lines_long : (edges : List ℕ) (short : Bool) (max_sfb : ℕ) (books : List ℕ) (bits : ℕ) (lines : List ℤ) (s : List ℕ) (at end : ℕ)
    → short ≡ false
    → counted 0 max_sfb (group_band edges books 0 0 1) lines s at end
    ≡ group_lines edges max_sfb books (groups_of short bits) 0 0 lines s at end
unfolding group_lines groups_of
lines_long edges short max_sfb books bits lines s at end e =
    rw e (sym (after-give (counted 0 max_sfb (group_band edges books 0 0 1) lines s at end) s end))
