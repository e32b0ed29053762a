-- Laws of the scan of a table, a word at a time, as the code goes.
-- Assumes nothing.
use Prim.Native.Nat.{ℕ, ◌+◌, ◌-◌, ◌<◌, ◌≤◌, min}
use mathlib.Core.Path.{◌≡◌, refl, sym, ◌∙◌}
use mathlib.Core.List.{List}
use mathlib.Core.Bool.{Bool, true, false, ◌||◌, or-true, or-false}
use native.Mathlib.Omega.{arith}
use native.Mathlib.Numerals.{add-one}
use native.Mathlib.Decide.{dec_le}
use lib.Dec.{leb, eqb}
use lib.ListN.{length, get_or, drop, drop_of_length-le}
use lib.Seq.{drop-cons}
use borrow.Author.Tests.{le-leb, lt-leb, lt-ltb, le-ltb, leb-true}
use Rattle.bits.specs.Bits.{bits_from}
use Rattle.bits.specs.Reader.{got, refused, pick}
use Rattle.bits.proofs.BitLaws.{bits_from_prefix}
use Rattle.bits.proofs.Bools.{and_both}
use Rattle.words.specs.Words.{fits, cut_off, scan}
use Rattle.bench_words.specs.InnerComparison.{compared}
use Rattle.bench_words.specs.declared.scan.Comparison.{Comparison}
use Rattle.bench_words.specs.declared.scan.Comparison.TheVariants.{Fits, Cut, Neither}

-- what a word is to a window of the bits is what it is to the bits up to the end
abbrev pub tells : Bool → Bool → Comparison
tells f k = pick f Fits (pick k Cut Neither)

pub compared_is : (s : List ℕ) (at end c l : ℕ) → l ≤ 20
    → compared (bits_from s at (min 20 (end - at))) (min 20 (end - at)) c l ≡ tells (fits c l s at end) (cut_off c l s at end)
unfolding fits cut_off
compared_is s at end c l h =
    let m = min 20 (end - at) in
    elim (dec_le l m) [
      | yes d ↦ simp (le-leb _ _ d, le-leb l (end - at) (omega arith), le-ltb (end - at) l (omega arith), bits_from_prefix s at l m d)
      | no d ↦
          let e : m ≡ end - at = omega arith in
          simp (lt-leb l (end - at) (omega arith), lt-ltb (end - at) l (omega arith), e)
    ]

module _ (codes lens s : List ℕ) (at end : ℕ) (i : ℕ) (hc : i < length codes) (hl : i < length lens) where
  pub scan_step : (short : Bool)
      → scan (drop i codes) (drop i lens) i short s at end
      ≡ pick (fits (get_or codes i 0) (get_or lens i 0) s at end) (got i (at + get_or lens i 0))
      (scan (drop (i + 1) codes) (drop (i + 1) lens) (i + 1) (short || (cut_off (get_or codes i 0) (get_or lens i 0) s at end)) s at end)
  unfolding scan
  scan_step short = rw (drop-cons codes i 0, drop-cons lens i 0, add-one)

  -- the word fits: it is the answer
  pub scan-found : (short : Bool) → fits (get_or codes i 0) (get_or lens i 0) s at end ≡ true
      → got i (at + get_or lens i 0) ≡ scan (drop i codes) (drop i lens) i short s at end
  scan-found short e = sym (scan_step short ∙ simp e)

  -- it does not: the scan goes on
  pub scan-next : (short : Bool) → fits (get_or codes i 0) (get_or lens i 0) s at end ≡ false
      → scan (drop i codes) (drop i lens) i short s at end
      ≡ scan (drop (i + 1) codes) (drop (i + 1) lens) (i + 1) (short || (cut_off (get_or codes i 0) (get_or lens i 0) s at end)) s at end
  scan-next short e = scan_step short ∙ simp e

-- past the last word
pub scan-end : (codes lens s : List ℕ) (at end i : ℕ) (short : Bool) → length codes ≤ i
    → pick short (refused 10 at) (refused 11 at) ≡ scan (drop i codes) (drop i lens) i short s at end
unfolding scan
scan-end codes lens s at end i short h = rw (drop_of_length-le codes h)

pub scan-short : (codes lens s : List ℕ) (at end i : ℕ) (short : Bool) → short ≡ true → length codes ≤ i
    → refused 10 at ≡ scan (drop i codes) (drop i lens) i short s at end
scan-short codes lens s at end i short e h = rw (← scan-end codes lens s at end i short h, e)

pub scan-none : (codes lens s : List ℕ) (at end i : ℕ) (short : Bool) → short ≡ false → length codes ≤ i
    → refused 11 at ≡ scan (drop i codes) (drop i lens) i short s at end
scan-none codes lens s at end i short e h = rw (← scan-end codes lens s at end i short h, e)

-- what the judgement tells of the word
pub told-fits : (f k : Bool) → Fits ≡ tells f k → f ≡ true
told-fits true k e = refl
told-fits false true e = cc
told-fits false false e = cc

pub told-cut : (f k : Bool) → Cut ≡ tells f k → (f ≡ false) × (k ≡ true)
told-cut true k e = (cc, cc)
told-cut false true e = (refl, refl)
told-cut false false e = (refl, cc)

pub told_neither : (f k : Bool) → Neither ≡ tells f k → (f ≡ false) × (k ≡ false)
told_neither true k e = (cc, cc)
told_neither false true e = (refl, cc)
told_neither false false e = (refl, refl)

fits-left : (c l : ℕ) (s : List ℕ) (at end : ℕ) → fits c l s at end ≡ true → l ≤ end - at
unfolding fits
fits-left c l s at end e = leb-true _ _ (and_both (leb l (end - at)) (eqb (bits_from s at l) c) e).0

-- a window of the bits at the place tells of a word what all of them do
abbrev pub Told : Comparison → (s : List ℕ) (at end c l : ℕ) → Type 0
Told r s at end c l = r ≡ tells (fits c l s at end) (cut_off c l s at end)

pub judged : (s : List ℕ) (at end c l : ℕ) → l ≤ 20 → {m v : ℕ} → m ≡ min 20 (end - at) → v ≡ bits_from s at m → {r : Comparison}
    → r ≡ compared v m c l → Told r s at end c l
judged s at end c l narrow em ev er = er ∙ simp (ev, em) (compared_is s at end c l narrow)

-- one turn of the code's loop, in which the word at i was judged
module _ (codes lens s : List ℕ) (at end i : ℕ) (short : Bool) (hc : i < length codes) (hl : i < length lens)
    {r : Comparison} (told : Told r s at end (get_or codes i 0) (get_or lens i 0)) where
  pub turn-found : r ≡ Fits →
      (got i (at + get_or lens i 0) ≡ scan (drop i codes) (drop i lens) i short s at end) × (get_or lens i 0 ≤ end - at)
  turn-found e =
      let fit = fits (get_or codes i 0) (get_or lens i 0) s at end in
      let cut = cut_off (get_or codes i 0) (get_or lens i 0) s at end in
      let f = told-fits fit cut (sym e ∙ told) in
      (scan-found codes lens s at end i hc hl short f, fits-left (get_or codes i 0) (get_or lens i 0) s at end f)

  pub turn-cut : r ≡ Cut
      → scan (drop i codes) (drop i lens) i short s at end ≡ scan (drop (i + 1) codes) (drop (i + 1) lens) (i + 1) true s at end
  turn-cut e =
      let fit = fits (get_or codes i 0) (get_or lens i 0) s at end in
      let cut = cut_off (get_or codes i 0) (get_or lens i 0) s at end in
      let f = told-cut fit cut (sym e ∙ told) in
      scan-next codes lens s at end i hc hl short f.0 ∙ simp (f.1, or-true)

  pub turn-neither : r ≡ Neither
      → scan (drop i codes) (drop i lens) i short s at end ≡ scan (drop (i + 1) codes) (drop (i + 1) lens) (i + 1) short s at end
  turn-neither e =
      let fit = fits (get_or codes i 0) (get_or lens i 0) s at end in
      let cut = cut_off (get_or codes i 0) (get_or lens i 0) s at end in
      let f = told_neither fit cut (sym e ∙ told) in
      scan-next codes lens s at end i hc hl short f.0 ∙ simp (f.1, or-false)
