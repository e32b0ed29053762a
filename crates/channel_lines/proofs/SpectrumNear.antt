-- The lines of a stream take 33,792 bits at most: 66 a word of two lines or more, so 33 a line, and no stream has more than 1,024 lines.
-- Assumes nothing.
use Prim.Native.Nat.{ℕ, zero, suc, ◌+◌, ◌*◌, ◌-◌, ◌/◌, ◌<◌, ◌≤◌}
use mathlib.Core.Path.{◌≡◌, sym, ◌∙◌, ap}
use mathlib.Core.List.{List, [], ◌∷◌}
use mathlib.Core.Bool.{Bool}
use native.Mathlib.Omega.{arith}
use native.Mathlib.Nat.{mul_assoc, mul-le-mul_left, mul-add, add-mul, div-mul-le_self}
use lib.Dec.{eqb}
use lib.ListN.{length, get_or}
use lib.IntN.{ℤ, pos, nat_abs}
use borrow.Author.Tests.{eqb-false}
use Rattle.bits.specs.Loop.{counted}
use Rattle.bits.proofs.NearLaws.{Near, so_costs, on_costs, give-costs, field-costs, pick-costs, bind_costs, counted-costs, each-costs}
use Rattle.words.proofs.EscapeNear.{escape-near}
use Rattle.tables.proofs.WordNear.{word-near}
use Rattle.channel_bands.specs.Bands.{bands, band_count, band_width}
use Rattle.channel_bands.specs.InnerBands.{window_lines, Rising}
use Rattle.channel_bands.specs.Grouping.{groups_of}
use Rattle.channel_words.specs.Books.{Book, is_silent, book_of}
use Rattle.channel_words.specs.Tuple.{spectral_word, digit, value, escape_at, escaped, tuple}
use Rattle.channel_lines.specs.Spectrum.{band_word, band, windows_band, group_band, group_lines, spectrum}
use Rattle.channel_bands.proofs.BandLaws.{bands-rising, bands-some}
use Rattle.channel_words.proofs.BookLaws.{spectral-book}
use Rattle.channel_bands.proofs.GroupCounts.{windows, groups-lines}

value-near : (b : Book) (entry j : ℕ) (vs : List ℤ) → Near 1 (value b entry j vs)
unfolding value
value-near b entry j vs =
    pick-costs (eqb b.offset 0)
    (λ e. pick-costs (eqb (digit b entry j) 0) (λ f. give-costs (omega arith))
    (λ f. bind_costs (field-costs 1 (omega arith)) λ sign. give-costs (omega arith)))
    (λ e. give-costs (omega arith))

escaped-near : (j : ℕ) (vs : List ℤ) → Near 21 (escaped j vs)
unfolding escaped escape_at
escaped-near j vs =
    pick-costs (eqb (nat_abs (get_or vs j (pos 0))) 16) (λ e. bind_costs escape-near λ m. give-costs (omega arith))
    (λ e. give-costs (omega arith))

tuple-near : (b : Book) → b.number ≤ 11 → b.dim ≤ 4 → Near 66 (tuple b)
unfolding tuple spectral_word
tuple-near b h l =
    bind_costs (on_costs (omega arith) (word-near b.number (omega arith))) λ entry.
    bind_costs (each-costs 1 (value-near b entry) 0 b.dim (omega arith) _) λ vs.
    pick-costs (eqb b.number 11)
    (λ e. so_costs {all = 66} (omega arith) (λ a. omega arith) (each-costs {m = 24} 21 escaped-near 0 2 (omega arith) vs))
    (λ e. give-costs (omega arith))

tuple-put-near : (b : Book) → b.number ≤ 11 → b.dim ≤ 4 → (first t : ℕ) (lines : List ℤ) → Near 66 (band_word b first t lines)
unfolding band_word
tuple-put-near b h l first t lines = bind_costs (tuple-near b h l) λ vs. give-costs (omega arith)

-- a word has two lines at least
few_words : (width dim : ℕ) → 2 ≤ dim → width / dim * 66 ≤ width * 33
few_words width dim h =
    omega (arith, div-mul-le_self width dim, mul-le-mul_left (width / dim) h)

band-near : (number first width : ℕ) (lines : List ℤ) → Near (width * 33) (band (book_of number) first width lines)
unfolding band
band-near number first width lines =
    pick-costs (is_silent (book_of number)) (λ e. give-costs (omega arith)) λ e.
    let s = spectral-book number (eqb-false _ 0 e) in
    let w = few_words width (book_of number).dim s.2 in
    so_costs {all = width / (book_of number).dim * 66} (omega arith) (λ a. omega arith)
    (each-costs {m = 0} 66 (tuple-put-near (book_of number) s.1 s.3 first) 0 (width / (book_of number).dim) (omega arith) lines)

-- a band's lines in each of n windows
windows-near : (number first width from n : ℕ) (lines : List ℤ) → Near (n * width * 33) (windows_band number first width from n lines)
unfolding windows_band
windows-near number first width from n lines =
    let q = mul_assoc n width 33 in
    so_costs {all = n * width * 33} (omega arith) (λ a. omega arith)
    (each-costs {m = 0} (width * 33) (λ v. band-near number _ width) from n (omega arith) lines)

module _ (edges : List ℕ) (last : ℕ) (rising : Rising edges last) where
  -- the bands of n windows lie one after another
  next-band : (n b : ℕ) → suc b < length edges → n * get_or edges b 0 + n * band_width edges b ≡ n * get_or edges (b + 1) 0
  unfolding band_width
  next-band n b h =
      let w = rising.step b h in
      let q : get_or edges b 0 + (get_or edges (suc b) 0 - get_or edges b 0) ≡ get_or edges (suc b) 0 = omega arith in
      sym (mul-add n _ _) ∙ ap (λ (x : ℕ). n * x) (q ∙ ap (λ (i : ℕ). get_or edges i 0) (omega arith))

  -- up to the last line
  last-band : (n max_sfb : ℕ) → max_sfb < length edges → n * get_or edges max_sfb 0 ≤ n * get_or edges 0 0 + n * last
  last-band n zero h = omega arith
  last-band n (suc b) h = omega (arith, mul-le-mul_left n (rising.step b h).1)

  group-near : (max_sfb : ℕ) (books : List ℕ) (base from n : ℕ) (lines : List ℤ) → max_sfb < length edges
      → Near (n * last * 33) (counted 0 max_sfb (group_band edges books base from n) lines)
  unfolding group_band
  group-near max_sfb books base from n lines h =
      let q : 0 + max_sfb ≡ max_sfb = omega arith in
      so_costs {all = n * get_or edges 0 0 * 33 + n * last * 33} {m = n * get_or edges 0 0 * 33} {f =
      λ y. n * get_or edges (0 + max_sfb) 0 * 33}
      (omega arith) (λ a. rw q (omega (arith, last-band n max_sfb h)))
      (counted-costs (λ b. n * get_or edges b 0 * 33) max_sfb
      (λ b l x.
      let step = next-band n b (omega arith) in
      so_costs (omega (arith, last-band n (b + 1) (omega arith))) (λ y. omega arith) (windows-near _ _ (band_width edges b) from n x))
      0 max_sfb (omega arith) lines)

  groups-near : (max_sfb : ℕ) (books : List ℕ) → max_sfb < length edges → (ns : List ℕ) (base from : ℕ) (lines : List ℤ)
      → Near (windows ns * last * 33) (group_lines edges max_sfb books ns base from lines)
  unfolding group_lines
  groups-near max_sfb books h [] base from lines = give-costs (omega arith)
  groups-near max_sfb books h (n ∷ ns) base from lines =
      let q = add-mul n (windows ns) last in
      bind_costs (on_costs (omega arith) (group-near max_sfb books base from n lines h)) λ ls.
      so_costs {all = windows ns * last * 33} (omega arith) (λ a. omega arith) (groups-near max_sfb books h ns _ _ ls)

-- the lines of a stream, whose max_sfb is no more than the number of bands
pub spectrum-near : (index : ℕ) (short : Bool) (bits max_sfb : ℕ) (books : List ℕ) → max_sfb ≤ band_count index short
    → Near 33792 (spectrum (bands index short) max_sfb books (groups_of short bits))
unfolding spectrum
spectrum-near index short bits max_sfb books h =
    let l = groups-lines short bits in
    so_costs (omega arith) (λ a. omega arith)
    (groups-near (bands index short) (window_lines short) (bands-rising index short) max_sfb books
    (omega (arith, bands-some index short)) (groups_of short bits) 0 0 _)
