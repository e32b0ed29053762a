-- A right lookup of a table reads its words: each leaf was found right for the bits that lead to it, and what it answers for them is what
-- the scan answers, as of a prefix-free table no other word can stand there.
-- Assumes nothing.
use Prim.Native.Nat.{ℕ, zero, suc, ◌+◌, ◌*◌, ◌-◌, ◌/◌, ◌%◌, ◌^◌, ◌<◌, ◌≤◌}
use mathlib.Core.Path.{◌≡◌, refl, sym, ◌∙◌, ap, subst}
use mathlib.Core.List.{List, [], ◌∷◌}
use mathlib.Core.Bool.{Bool, true, false, ◌&&◌, ◌||◌}
use mathlib.Core.Logic.{inl, inr}
use native.Mathlib.Omega.{arith}
use native.Mathlib.Decide.{dec_le, ℕ_discrete}
use native.Mathlib.Nat.{mod-lt, div-add-mod', not-suc-le-zero}
use lib.Dec.{T, leb, ltb, eqb, leb→le, ltb→lt, eqb→eq}
use lib.ListN.{length, get_or}
use lib.Pow.{shr-shr, shr_lt, shl-shr, pow_pos}
use borrow.Author.Tests.{le-leb, lt-leb, eq-eqb, ne_eqb, leb-true, eqb-true}
use Rattle.bits.specs.Bits.{bits_from}
use Rattle.bits.specs.Reader.{got, refused, pick}
use Rattle.bits.specs.InnerWindow.{window_of}
use Rattle.bits.proofs.Bools.{and_left, and_right, and_both}
use Rattle.bits.proofs.BitLaws.{bits_from_prefix}
use Rattle.bits.proofs.WindowLaws.{window-lt, window_prefix, window-cut}
use Rattle.words.specs.Words.{fits, cut_off, word}
use Rattle.words.specs.Table.{is_prefix, apart, prefix_free}
use Rattle.words.specs.InnerLookup.{entry_in, length_in, further, next_element, leads_to, leaf_of, answered, looked}
use Rattle.words.specs.InnerLookup.{begun, right_none, right_word, right_leaf, all_below, right_element, right_lookup}
use Rattle.words.proofs.FitLaws.{fit_of, fit_parts, cut_of, cut_parts}
use Rattle.words.proofs.PrefixLaws.{apart_clash}
use Rattle.words.proofs.ScanAnswers.{scan_10, scan_neither}
use Rattle.words.proofs.WordLaws.{same_bits, word-is, cut-is}

-- a test of all numbers below n holds of each
pub all-at : (n : ℕ) (f : ℕ → Bool) → T (all_below n f) → (j : ℕ) → j < n → T (f j)
all-at zero f t j h = absurd (not-suc-le-zero h)
all-at (suc n) f t j h =
    elim (ℕ_discrete j n) [
      | yes e ↦ subst (λ (x : ℕ). T (f x)) (sym e) (and_left (f n) (all_below n f) t)
      | no d ↦ all-at n f (and_right (f n) (all_below n f) t) j (omega (arith, d))
    ]

-- what a leaf is for the l bits q that it judges
abbrev Judged : List ℕ → List ℕ → ℕ → ℕ → ℕ → Type 0
Judged codes lens k l q = T (pick (eqb k 511) (right_none codes lens l q) (right_word codes lens k l q))

-- a leaf that is right for a window w
record Leaf (codes lens : List ℕ) (w e : ℕ) : Type 0 where
  narrow : length_in e ≤ 24
  judged : Judged codes lens (entry_in e) (length_in e) (w / 2 ^ (24 - length_in e))

leaf-of : (codes lens : List ℕ) (w d e : ℕ) → d ≤ 24 → T (right_leaf codes lens d (w / 2 ^ (24 - d)) e) → Leaf codes lens w e
leaf-of codes lens w d e h t =
    let l = length_in e in
    let q = w / 2 ^ (24 - d) / 2 ^ (d - l) in
    let rest = pick (eqb (entry_in e) 511) (right_none codes lens l q) (right_word codes lens (entry_in e) l q) in
    let g : l ≤ d = leb→le l d (and_left (leb l d) rest t) in
    let m : (24 - d) + (d - l) ≡ 24 - l = omega arith in
    let z : q ≡ w / 2 ^ (24 - l) = shr-shr w (24 - d) (d - l) ∙ ap (λ (x : ℕ). w / 2 ^ x) m in
    record {
      narrow = omega arith;
      judged = subst (λ (x : ℕ). Judged codes lens (entry_in e) l x) z (and_right (leb l d) rest t);
    }

-- the bits behind and the next ones
next-bits : (w d b : ℕ) → d + b ≤ 24 → w / 2 ^ (24 - d) * 2 ^ b + w / 2 ^ (24 - (d + b)) % 2 ^ b ≡ w / 2 ^ (24 - (d + b))
next-bits w d b h =
    let q : 24 - d ≡ (24 - (d + b)) + b = omega arith in
    rw (q, ← shr-shr) (div-add-mod' (w / 2 ^ (24 - (d + b))) (2 ^ b))

leads_right : (n : ℕ) (look codes lens : List ℕ) (w d e : ℕ) → d ≤ 24 → T (right_element n look codes lens d (w / 2 ^ (24 - d)) e)
    → Leaf codes lens w (leads_to n look w d e)
unfolding leads_to next_element
leads_right zero look codes lens w d e h t = leaf-of codes lens w d e h t
leads_right (suc n) look codes lens w d e h t = go (leads_right n look codes lens w) (ltb e 16384) t
  where
    below : ℕ → Bool
    below j = right_element n look codes lens (d + further e) (w / 2 ^ (24 - d) * 2 ^ further e + j) (get_or look (e % 2048 + j) 0)

    go : ((d e : ℕ) → d ≤ 24 → T (right_element n look codes lens d (w / 2 ^ (24 - d)) e) → Leaf codes lens w (leads_to n look w d e))
        → (x : Bool) → T (pick x (right_leaf codes lens d (w / 2 ^ (24 - d)) e) (leb (d + further e) 24 && all_below (2 ^ further e) below))
        → Leaf codes lens w (pick x e (leads_to n look w (d + further e) (next_element look w d e)))
    go r true t = leaf-of codes lens w d e h t
    go r false t =
        let b = d + further e in
        let g : b ≤ 24 = leb→le b 24 (and_left (leb b 24) (all_below (2 ^ further e) below) t) in
        let j = w / 2 ^ (24 - b) % 2 ^ further e in
        let f = get_or look (e % 2048 + j) 0 in
        let a : T (below j) =
        all-at (2 ^ further e) below (and_right (leb b 24) (all_below (2 ^ further e) below) t) j
        (mod-lt (w / 2 ^ (24 - b)) (pow_pos (further e))) in
        let a' : T (right_element n look codes lens b (w / 2 ^ (24 - b)) f) =
        subst (λ (x : ℕ). T (right_element n look codes lens b x f)) (next-bits w d (further e) g) a in
        rw (le-leb _ _ g) (r b f g a')

-- some word begins with the bits
begun-at : (q l : ℕ) (cs ls : List ℕ) → T (begun q l cs ls)
    → (k : ℕ) × (k < length cs) × (k < length ls) × (is_prefix q l (get_or cs k 0) (get_or ls k 0) ≡ true)
begun-at q l [] ls t = absurd t
begun-at q l (c ∷ cs) [] t = absurd t
begun-at q l (c ∷ cs) (m ∷ ls) t = go (begun-at q l cs ls) (is_prefix q l c m) refl t
  where
    go : (T (begun q l cs ls) → (k : ℕ) × (k < length cs) × (k < length ls) × (is_prefix q l (get_or cs k 0) (get_or ls k 0) ≡ true))
        → (b : Bool) → is_prefix q l c m ≡ b → T (b || begun q l cs ls)
        → (k : ℕ) × (k < suc (length cs)) × (k < suc (length ls)) × (is_prefix q l (get_or (c ∷ cs) k 0) (get_or (m ∷ ls) k 0) ≡ true)
    go r true e t = (0, omega arith, omega arith, e)
    go r false e t = let w = r t in (suc w.0, omega arith, omega arith, w.3)

-- a test that does not hold
not-true : (b : Bool) → (b ≡ true → ⊥) → b ≡ false
not-true true n = absurd (n refl)
not-true false n = refl

-- the answer of a leaf, where the l bits q that it judges begin a window of the bits left
module _ (codes lens : List ℕ) (free : T (prefix_free codes lens)) (s : List ℕ) (at end k l : ℕ) (narrow : l ≤ 24) where
  abbrev first : ℕ
  first = window_of s at (end - at) / 2 ^ (24 - l)

  -- of a word
  of_word : T (right_word codes lens k l first) → pick (leb l (end - at)) (got k (at + l)) (refused 10 at) ≡ word codes lens s at end
  of_word t =
      let a = ltb k (length codes) in
      let b = ltb k (length lens) in
      let c = eqb (get_or lens k 0) l in
      let d = eqb first (get_or codes k 0) in
      let abc = and_left (a && b && c) d t in
      let ab = and_left (a && b) c abc in
      let hc : k < length codes = ltb→lt k (length codes) (and_left a b ab) in
      let hl : k < length lens = ltb→lt k (length lens) (and_right a b ab) in
      let size : get_or lens k 0 ≡ l = eqb→eq (get_or lens k 0) l (and_right (a && b) c abc) in
      let starts : first ≡ get_or codes k 0 = eqb→eq first (get_or codes k 0) (and_right (a && b && c) d t) in
      elim (dec_le l (end - at)) [
        | yes h ↦
            let fit = fit_of (get_or codes k 0) l s at end h (sym (window_prefix s at (end - at) l narrow h) ∙ starts) in
            rw (le-leb _ _ h, ← size) (sym (word-is codes lens free s at end k hc hl (rw size fit)))
        | no h ↦
            let g : end - at < l = omega (arith, h) in
            let z : bits_from s at (end - at) ≡ get_or codes k 0 / 2 ^ (l - (end - at)) =
            rw (← starts, window-cut s at (end - at) l narrow g, shl-shr) in
            let cut = cut_of (get_or codes k 0) l s at end g z in
            rw (lt-leb _ _ g) (sym (cut-is codes lens free s at end k hc hl (rw size cut)))
      ]

  -- of no word: none fits the bits
  none-fits : T (apart first l codes lens) → (j : ℕ) → j < length codes → j < length lens
      → fits (get_or codes j 0) (get_or lens j 0) s at end ≡ true → ⊥
  none-fits a j hc hl e =
      let c = get_or codes j 0 in
      let m = get_or lens j 0 in
      let u = fit_parts c m s at end e in
      elim (dec_le l (end - at)) [
        | yes h ↦
            let p = sym (window_prefix s at (end - at) l narrow h) in
            elim (dec_le l m) [
              | yes g ↦ apart_clash first l codes lens a j hc hl (inl (same_bits first l c m s at g p u.1))
              | no g ↦ apart_clash first l codes lens a j hc hl (inr (same_bits c m first l s at (omega (arith, g)) u.1 p))
            ]
        | no h ↦
            let g : end - at < l = omega (arith, h) in
            let q : l - m ≡ (l - (end - at)) + ((end - at) - m) = omega arith in
            let z : first / 2 ^ (l - m) ≡ c =
            rw (window-cut s at (end - at) l narrow g, q, ← shr-shr, shl-shr) (bits_from_prefix s at m (end - at) u.0 ∙ u.1) in
            apart_clash first l codes lens a j hc hl (inr (simp (le-leb m l (omega arith), eq-eqb _ _ z)))
      ]

  -- nor is one cut off, where all the bits that the leaf judges are there
  none-cut : T (apart first l codes lens) → l ≤ end - at → (j : ℕ) → j < length codes → j < length lens
      → cut_off (get_or codes j 0) (get_or lens j 0) s at end ≡ true → ⊥
  none-cut a h j hc hl e =
      let c = get_or codes j 0 in
      let m = get_or lens j 0 in
      let u = cut_parts c m s at end e in
      let q : m - l ≡ (m - (end - at)) + ((end - at) - l) = omega arith in
      let z : c / 2 ^ (m - l) ≡ first =
      rw (q, ← shr-shr, ← u.1, bits_from_prefix s at l (end - at) h) (sym (window_prefix s at (end - at) l narrow h)) in
      apart_clash first l codes lens a j hc hl (inl (simp (le-leb l m (omega arith), eq-eqb _ _ z)))

  -- where they are not, the word that is left before the last of them is cut off
  begun-cut : T (apart first l codes lens) → end - at < l → (j : ℕ) → j < length codes → j < length lens
      → is_prefix (first / 2) (l - 1) (get_or codes j 0) (get_or lens j 0) ≡ true →
      cut_off (get_or codes j 0) (get_or lens j 0) s at end ≡ true
  begun-cut a g j hc hl e =
      let c = get_or codes j 0 in
      let m = get_or lens j 0 in
      let u = and_both (leb (l - 1) m) (eqb (c / 2 ^ (m - (l - 1))) (first / 2)) e in
      let h : l - 1 ≤ m = leb-true _ _ u.0 in
      let v : c / 2 ^ (m - (l - 1)) ≡ first / 2 = eqb-true _ _ u.1 in
      let back : first / 2 ^ (l - (end - at)) ≡ bits_from s at (end - at) = rw (window-cut s at (end - at) l narrow g, shl-shr) in
      elim (dec_le m (end - at)) [
        | yes d ↦
            let one : l - m ≡ 1 = omega arith in
            let same : m - (l - 1) ≡ 0 = omega arith in
            let v' : c / 2 ^ 0 ≡ first / 2 = rw same at v in
            let z : first / 2 ^ (l - m) ≡ c = rw one (omega arith) in
            absurd (apart_clash first l codes lens a j hc hl (inr (simp (le-leb m l (omega arith), eq-eqb _ _ z))))
        | no d ↦
            let q : m - (end - at) ≡ (m - (l - 1)) + ((l - 1) - (end - at)) = omega arith in
            let r : l - (end - at) ≡ 1 + ((l - 1) - (end - at)) = omega arith in
            let x : first / 2 / 2 ^ ((l - 1) - (end - at)) ≡ bits_from s at (end - at) =
            shr-shr first 1 ((l - 1) - (end - at)) ∙ ap (λ (y : ℕ). first / 2 ^ y) (sym r) ∙ back in
            cut_of c m s at end (omega (arith, d)) (sym (rw (q, ← shr-shr, v) x))
      ]

  of_none : T (right_none codes lens l first) → pick (leb l (end - at)) (refused 11 at) (refused 10 at) ≡ word codes lens s at end
  unfolding word
  of_none t =
      let some = eqb l 0 || begun (first / 2) (l - 1) codes lens in
      let a = and_left (apart first l codes lens) some t in
      elim (dec_le l (end - at)) [
        | yes h ↦
            rw (le-leb _ _ h)
            (sym (scan_neither codes lens 0 s at end
            (λ j hc hl. (not-true _ (none-fits a j hc hl), not-true _ (none-cut a h j hc hl)))))
        | no h ↦
            let g : end - at < l = omega (arith, h) in
            let b = begun-at (first / 2) (l - 1) codes lens (left_over (eqb l 0) (ne_eqb l 0 (λ e. omega arith)) (and_right
            (apart first l codes lens) some t)) in
            rw (lt-leb _ _ g)
            (sym (scan_10 codes lens 0 false s at end (λ j hc hl. not-true _ (none-fits a j hc hl))
            (inr (b.0, b.1, b.2, begun-cut a g b.0 b.1 b.2 b.3))))
      ]
    where
      left_over : (x : Bool) → x ≡ false → T (x || begun (first / 2) (l - 1) codes lens) → T (begun (first / 2) (l - 1) codes lens)
      left_over x e t = rw e at t

-- what a right leaf answers is the word at the place
leaf-is : (codes lens : List ℕ) → T (prefix_free codes lens) → (s : List ℕ) (at end e : ℕ) → Leaf codes lens (window_of s at (end - at)) e
    → answered e at (end - at) ≡ word codes lens s at end
unfolding answered
leaf-is codes lens f s at end e x = go (eqb (entry_in e) 511) x.judged
  where
    go : (b : Bool)
        → T (pick b (right_none codes lens (length_in e) (window_of s at (end - at) / 2 ^ (24 - length_in e)))
        (right_word codes lens (entry_in e) (length_in e) (window_of s at (end - at) / 2 ^ (24 - length_in e))))
        → pick (leb (length_in e) (end - at)) (pick b (refused 11 at) (got (entry_in e) (at + length_in e))) (refused 10 at)
        ≡ word codes lens s at end
    go true t = of_none codes lens f s at end (entry_in e) (length_in e) x.narrow t
    go false t = of_word codes lens f s at end (entry_in e) (length_in e) x.narrow t

-- the parts of the one test of a lookup
pub record Lookup (k : ℕ) (look codes lens : List ℕ) : Type 0 where
  pub narrow : k ≤ 20
  pub enough : 2 ^ k ≤ length look
  pub right : T (all_below (2 ^ k) (λ i. right_element 2 look codes lens k i (get_or look i 0)))

pub lookup-parts : (k : ℕ) (look codes lens : List ℕ) → T (right_lookup k look codes lens) → Lookup k look codes lens
lookup-parts k look codes lens t =
    let a = leb k 20 in
    let b = leb (2 ^ k) (length look) in
    let c = all_below (2 ^ k) (λ i. right_element 2 look codes lens k i (get_or look i 0)) in
    let ab = and_left (a && b) c t in
    record {
      narrow = leb→le k 20 (and_left a b ab);
      enough = leb→le (2 ^ k) (length look) (and_right a b ab);
      right = and_right (a && b) c t;
    }

-- the law, over any prefix-free table of words and any right lookup of it: the same answer on every input
pub looked-is : (k : ℕ) (look codes lens : List ℕ) → T (right_lookup k look codes lens) → T (prefix_free codes lens)
    → (s : List ℕ) (at end : ℕ) → looked look k s at end ≡ word codes lens s at end
unfolding looked leaf_of
looked-is k look codes lens t f s at end =
    let w = window_of s at (end - at) in
    let p = lookup-parts k look codes lens t in
    let h : k ≤ 24 = let n = p.narrow in omega arith in
    let q : k + (24 - k) ≡ 24 = omega arith in
    let b : w < 2 ^ (k + (24 - k)) = rw q (window-lt s at (end - at)) in
    let i = w / 2 ^ (24 - k) in
    let a = all-at (2 ^ k) (λ i. right_element 2 look codes lens k i (get_or look i 0)) p.right i (shr_lt k (24 - k) b) in
    leaf-is codes lens f s at end (leads_to 2 look w k (get_or look i 0)) (leads_right 2 look codes lens w k (get_or look i 0) h a)
