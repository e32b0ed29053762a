-- Laws of the word reader over any table: the word that fits is the only answer; a complete table never gives 11, and an incomplete one
-- has bits that do; and the reading and writing laws.
-- Assumes nothing.
use Prim.Native.Nat.{ℕ, ◌+◌, ◌-◌, ◌*◌, ◌/◌, ◌^◌, ◌<◌, ◌≤◌, min}
use mathlib.Core.Path.{◌≡◌, refl, sym, ◌∙◌, ap, ap₂, subst}
use mathlib.Core.Bool.{Bool, true, false}
use mathlib.Core.List.{List, [], ◌∷◌}
use mathlib.Core.Logic.{inr}
use native.Mathlib.Omega.{arith}
use native.Mathlib.Decide.{dec_le}
use native.Mathlib.Nat.{add-zero, zero-add}
use lib.Dec.{T}
use lib.Pow.{shr-shr, shl-shr, shl_lt}
use lib.ListN.{length, get_or}
use borrow.Author.Tests.{eq-eqb, le-leb}
use Rattle.bits.specs.Bits.{bits_from}
use Rattle.bits.specs.Reader.{got, refused}
use Rattle.bits.specs.Pieces.{piece}
use Rattle.bits.specs.Packed.{packed}
use Rattle.bits.proofs.Bools.{true-false}
use Rattle.bits.proofs.BitLaws.{bits_from_prefix, bits_from-lt}
use Rattle.bits.proofs.Lawful.{Lawful}
use Rattle.bits.proofs.Spelt.{Spelt}
use Rattle.bits.proofs.Back.{Back}
use Rattle.bits.proofs.PackedLaws.{packed-holds}
use Rattle.words.specs.Words.{fits, cut_off, word}
use Rattle.words.specs.Table.{is_prefix, prefix_free, kraft, sized}
use Rattle.words.proofs.FitLaws.{fit_of, fit_parts, cut_of, cut_parts}
use Rattle.words.proofs.PrefixLaws.{hits, hit_some, covered-by, gap, prefix_rule, sized-at}
use Rattle.words.proofs.ScanAnswers.{scan_11, scan-got, scan-is, scan_10, scan-same, scan_neither, scan-refused}

-- a window of r bits, filled up with zeros to M
aligned : (b M r l : ℕ) → r ≤ M → l ≤ r → b * 2 ^ (M - r) / 2 ^ (M - l) ≡ b / 2 ^ (r - l)
aligned b M r l h g =
    let q : M - l ≡ (M - r) + (r - l) = omega arith in
    rw (q, ← shr-shr, shl-shr)

aligned-cut : (b M r l : ℕ) → r ≤ l → l ≤ M → b * 2 ^ (M - r) / 2 ^ (M - l) / 2 ^ (l - r) ≡ b
aligned-cut b M r l h g =
    let q : (M - l) + (l - r) ≡ M - r = omega arith in
    rw (shr-shr, q, shl-shr)

-- where some word covers the bits that are left, filled up with zeros, it fits or is cut off
covered : (M c l : ℕ) (s : List ℕ) (at end : ℕ) → l ≤ M
    → bits_from s at (min M (end - at)) * 2 ^ (M - min M (end - at)) / 2 ^ (M - l) ≡ c
    → fits c l s at end ≡ false → cut_off c l s at end ≡ false → ⊥
covered M c l s at end h e f k =
    elim (dec_le l (min M (end - at))) [
      | yes d ↦
          let b : bits_from s at l ≡ c =
          sym (bits_from_prefix s at l (min M (end - at)) d)
          ∙ sym (aligned (bits_from s at (min M (end - at))) M (min M (end - at)) l (omega arith) d) ∙ e in
          true-false _ (fit_of c l s at end (omega arith) b) f
      | no d ↦
          let r : min M (end - at) ≡ end - at = omega arith in
          let e' : bits_from s at (end - at) * 2 ^ (M - (end - at)) / 2 ^ (M - l) ≡ c = rw r at e in
          let b : bits_from s at (end - at) ≡ c / 2 ^ (l - (end - at)) =
          sym (aligned-cut (bits_from s at (end - at)) M (end - at) l (omega arith) h) ∙ ap (λ (z : ℕ). z / 2 ^ (l - (end - at))) e' in
          true-false _ (cut_of c l s at end (omega arith) b) k
    ]

-- a complete table never gives 11
pub never_11 : (M : ℕ) (cs ls : List ℕ) → length cs ≡ length ls → T (sized M cs ls) → T (prefix_free cs ls) → kraft M ls ≡ 2 ^ M
    → (s : List ℕ) (at end p : ℕ) → word cs ls s at end ≡ refused 11 p → ⊥
unfolding word
never_11 M cs ls e z f k s at end p q =
    let r = min M (end - at) in
    let x = bits_from s at r * 2 ^ (M - r) in
    let b : bits_from s at r * 2 ^ (M - r) < 2 ^ M =
    subst (λ (y : ℕ). bits_from s at r * 2 ^ (M - r) < 2 ^ y) (let y : r + (M - r) ≡ M = omega arith in y)
    (shl_lt r (M - r) (bits_from-lt s at r)) in
    let w = covered-by M cs ls e z f k x b in
    let n = (scan_11 cs ls 0 false s at end p q).1 w.0 w.1 w.2 in
    covered M (get_or cs w.0 0) (get_or ls w.0 0) s at end (sized-at M cs ls z w.0 w.1 w.2) w.3 n.0 n.1

-- two words that stand at the same place of the same bits
pub same_bits : (c l d m : ℕ) (s : List ℕ) (at : ℕ) → l ≤ m → bits_from s at l ≡ c → bits_from s at m ≡ d → is_prefix c l d m ≡ true
same_bits c l d m s at h p q =
    let z : d / 2 ^ (m - l) ≡ c = rw (← q) (bits_from_prefix s at l m h ∙ p) in
    simp (le-leb _ _ h, eq-eqb _ _ z)

module _ (cs ls : List ℕ) (f : T (prefix_free cs ls)) where
  -- of two words that are prefixes of the bits from a place, the shorter is the longer
  shorter : (s : List ℕ) (at end end' i j : ℕ) → i < length cs → i < length ls → j < length cs → j < length ls
      → fits (get_or cs i 0) (get_or ls i 0) s at end ≡ true → fits (get_or cs j 0) (get_or ls j 0) s at end' ≡ true → i ≡ j
  shorter s at end end' i j hi hi' hj hj' p q =
      let u = fit_parts (get_or cs i 0) (get_or ls i 0) s at end p in
      let v = fit_parts (get_or cs j 0) (get_or ls j 0) s at end' q in
      elim (dec_le (get_or ls i 0) (get_or ls j 0)) [
        | yes d ↦ prefix_rule cs ls f i j hi hi' hj hj' (same_bits _ _ _ _ s at d u.1 v.1)
        | no d ↦ sym (prefix_rule cs ls f j i hj hj' hi hi' (same_bits _ _ _ _ s at (omega arith) v.1 u.1))
      ]

  -- the word that fits is the answer
  pub word-is : (s : List ℕ) (at end k : ℕ) → k < length cs → k < length ls → fits (get_or cs k 0) (get_or ls k 0) s at end ≡ true
      → word cs ls s at end ≡ got k (at + get_or ls k 0)
  unfolding word
  word-is s at end k h g e =
      scan-is cs ls 0 false s at end k h g e (λ j a b p. shorter s at end end j k a b h g p e) ∙ simp zero-add

  -- where it is cut off, none fits
  cut-none : (s : List ℕ) (at end end' k : ℕ) → k < length cs → k < length ls → fits (get_or cs k 0) (get_or ls k 0) s at end ≡ true
      → end' < at + get_or ls k 0 → at ≤ end' → (j : ℕ) → j < length cs → j < length ls →
      fits (get_or cs j 0) (get_or ls j 0) s at end' ≡ false
  cut-none s at end end' k h g e l o j a b = go (fits (get_or cs j 0) (get_or ls j 0) s at end') refl
    where
      go : (x : Bool) → fits (get_or cs j 0) (get_or ls j 0) s at end' ≡ x → x ≡ false
      go true q =
          let i : j ≡ k = shorter s at end' end j k a b h g q e in
          let u = fit_parts (get_or cs j 0) (get_or ls j 0) s at end' q in
          let v : get_or ls j 0 ≡ get_or ls k 0 = rw i in
          absurd (omega arith)
      go false q = refl

  pub word-lawful : Lawful (word cs ls)
  unfolding word
  word-lawful = record {
    accepts = record {
      within = λ s at end next a h e.
          let w = scan-got cs ls 0 false s at end a next e in
          let u = fit_parts (get_or cs w.0 0) (get_or ls w.0 0) s at end w.4 in
          omega arith;
      local = λ s t at end h q. scan-same cs ls 0 false s t at end h q;
      stable = λ s at end next end' a h e l.
          let w = scan-got cs ls 0 false s at end a next e in
          let u = fit_parts (get_or cs w.0 0) (get_or ls w.0 0) s at end w.4 in
          let x = word-is s at end' w.0 w.1 w.2 (fit_of (get_or cs w.0 0) (get_or ls w.0 0) s at end' (omega arith) u.1) in
          let y : a ≡ w.0 = omega arith in
          x ∙ ap₂ got (sym y) (sym w.5);
      cut = λ s at end next end' a h e l g.
          let w = scan-got cs ls 0 false s at end a next e in
          let u = fit_parts (get_or cs w.0 0) (get_or ls w.0 0) s at end w.4 in (
            at,
            scan_10 cs ls 0 false s at end' (λ j a b. cut-none s at end end' w.0 w.1 w.2 w.4 (omega arith) l j a b) (inr (
              w.0,
              w.1,
              w.2,
              cut_of (get_or cs w.0 0) (get_or ls w.0 0) s at end' (omega arith)
                  (sym (bits_from_prefix s at (end' - at) (get_or ls w.0 0) (omega arith))
                  ∙ ap (λ (z : ℕ). z / 2 ^ (get_or ls w.0 0 - (end' - at))) u.1),
            )),
          );
    };
    placed = λ s at end n p h e. let q = (scan-refused cs ls 0 false s at end n p e).0 in omega arith;
  }

  -- a word that the bits are cut off from is the only one that they are the start of: the answer is 10
  pub cut-is : (s : List ℕ) (at end k : ℕ) → k < length cs → k < length ls → cut_off (get_or cs k 0) (get_or ls k 0) s at end ≡ true
      → word cs ls s at end ≡ refused 10 at
  unfolding word
  cut-is s at end k h g e =
      scan_10 cs ls 0 false s at end (λ j a b. go j a b (fits (get_or cs j 0) (get_or ls j 0) s at end) refl) (inr (k, h, g, e))
    where
      go : (j : ℕ) → j < length cs → j < length ls → (x : Bool) → fits (get_or cs j 0) (get_or ls j 0) s at end ≡ x
          → fits (get_or cs j 0) (get_or ls j 0) s at end ≡ false
      go j a b true q =
          let u = fit_parts (get_or cs j 0) (get_or ls j 0) s at end q in
          let v = cut_parts (get_or cs k 0) (get_or ls k 0) s at end e in
          let m : get_or ls k 0 - get_or ls j 0 ≡ (get_or ls k 0 - (end - at)) + ((end - at) - get_or ls j 0) = omega arith in
          let z : get_or cs k 0 / 2 ^ (get_or ls k 0 - get_or ls j 0) ≡ get_or cs j 0 =
          rw (m, ← shr-shr, ← v.1) (bits_from_prefix s at (get_or ls j 0) (end - at) u.0 ∙ u.1) in
          let i : j ≡ k = prefix_rule cs ls f j k a b h g (simp (le-leb (get_or ls j 0) (get_or ls k 0) (omega arith), eq-eqb _ _ z)) in
          let w : get_or ls j 0 ≡ get_or ls k 0 = rw i in
          absurd (omega arith)
      go j a b false q = q

-- an accepted word is the entry's
pub word_fit : (cs ls s : List ℕ) (at end k next : ℕ) → word cs ls s at end ≡ got k next
    → (k < length cs) × (k < length ls) × (bits_from s at (get_or ls k 0) ≡ get_or cs k 0) × (next ≡ at + get_or ls k 0)
unfolding word
word_fit cs ls s at end k next e =
    let w = scan-got cs ls 0 false s at end k next e in
    let j : k ≡ w.0 = omega arith in
    rw j (w.1, w.2, (fit_parts (get_or cs w.0 0) (get_or ls w.0 0) s at end w.4).1, w.5)

-- and its word is no longer than what is left
pub word_room : (cs ls s : List ℕ) (at end k next : ℕ) → word cs ls s at end ≡ got k next → get_or ls k 0 ≤ end - at
unfolding word
word_room cs ls s at end k next e =
    let w = scan-got cs ls 0 false s at end k next e in
    let j : k ≡ w.0 = omega arith in
    rw j (fit_parts (get_or cs w.0 0) (get_or ls w.0 0) s at end w.4).0

-- an incomplete table has bits that give 11: of some m bits no word is a prefix, and they are too many to be the start of one
pub some_11 : (M : ℕ) (cs ls : List ℕ) → length cs ≡ length ls → T (sized M cs ls) → kraft M ls < 2 ^ M
    → (s : List ℕ) × (word cs ls s 0 M ≡ refused 11 0)
unfolding word
some_11 M cs ls e z k =
    let w = gap M cs ls e z k in
    let s = packed (piece w.0 M ∷ []) in
    let b : bits_from (packed (piece w.0 M ∷ [])) 0 M ≡ w.0 = (packed-holds (piece w.0 M ∷ []) (w.1, tt)).0 in (
      s,
      scan_neither cs ls 0 s 0 M (λ i a b'.
          let n = sized-at M cs ls z i a b' in (
            not-fit s i a b' n w.0 b w.2 (fits (get_or cs i 0) (get_or ls i 0) s 0 M) refl,
            not-cut s i n (cut_off (get_or cs i 0) (get_or ls i 0) s 0 M) refl,
          )),
    )
  where
    not-fit : (s : List ℕ) (i : ℕ) → i < length cs → i < length ls → get_or ls i 0 ≤ M → (x : ℕ) → bits_from s 0 M ≡ x → hits M cs ls x ≡ 0
        → (t : Bool) → fits (get_or cs i 0) (get_or ls i 0) s 0 M ≡ t → t ≡ false
    not-fit s i a b n x q h true e =
        let u = fit_parts (get_or cs i 0) (get_or ls i 0) s 0 M e in
        let c : x / 2 ^ (M - get_or ls i 0) ≡ get_or cs i 0 = ap (λ (y : ℕ). y / 2 ^ (M - get_or ls i 0)) (sym q)
        ∙ bits_from_prefix s 0 (get_or ls i 0) M n ∙ u.1 in
        let p = hit_some M cs ls x i a b c in
        absurd (omega arith)
    not-fit s i a b n x q h false e = refl

    not-cut : (s : List ℕ) (i : ℕ) → get_or ls i 0 ≤ M → (t : Bool) → cut_off (get_or cs i 0) (get_or ls i 0) s 0 M ≡ t → t ≡ false
    not-cut s i n true e = let u = cut_parts (get_or cs i 0) (get_or ls i 0) s 0 M e in absurd (omega arith)
    not-cut s i n false e = refl

-- read, then spelled: the word of the entry
pub word-spelt : (cs ls : List ℕ)
    → Spelt (word cs ls) [] (λ k. piece (get_or cs k 0) (get_or ls k 0) ∷ []) (λ k. (k < length cs) × (k < length ls))
word-spelt cs ls = record {
  law = λ s at end next a e.
      let x = word_fit cs ls s at end a next e in
      (piece (get_or cs a 0) (get_or ls a 0) ∷ [], refl, (x.2, tt), omega arith, (x.0, x.1));
}

-- spelled, then read
pub word_back : (cs ls : List ℕ) (k : ℕ) → T (prefix_free cs ls) → k < length cs → k < length ls
    → Back (word cs ls) k (piece (get_or cs k 0) (get_or ls k 0) ∷ [])
word_back cs ls k f p q = record {
  law = λ s at end h l.
      rw add-zero (word-is cs ls f s at end k p q (fit_of (get_or cs k 0) (get_or ls k 0) s at end (omega arith) h.0));
}
