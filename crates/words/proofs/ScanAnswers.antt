-- What a scan of a table answers, by the words that fit and those that are cut off.
-- Assumes nothing.
use Prim.Native.Nat.{ℕ, zero, suc, ◌+◌, ◌<◌, ◌≤◌}
use mathlib.Core.Path.{◌≡◌, refl, sym}
use mathlib.Core.Bool.{Bool, true, false, ◌||◌}
use mathlib.Core.List.{List, [], ◌∷◌}
use mathlib.Core.Logic.{◌⊎◌, inl, inr}
use native.Mathlib.Omega.{arith}
use native.Mathlib.Nat.{not-suc-le-zero, add-zero}
use lib.ListN.{length, get_or}
use Rattle.bits.specs.Reader.{Answer, got, refused, pick}
use Rattle.bits.proofs.BitLaws.{Same}
use Rattle.bits.proofs.Lawful.{not-refused, same_place}
use Rattle.words.specs.Words.{fits, cut_off, scan}
use Rattle.words.proofs.FitLaws.{fits-same, cut-same}

-- what a scan that ends in 11 has seen
pub scan_11 : (cs ls : List ℕ) (i : ℕ) (short : Bool) (s : List ℕ) (at end p : ℕ) → scan cs ls i short s at end ≡ refused 11 p
    → (short ≡ false) × ((k : ℕ) → k < length cs → k < length ls
    → (fits (get_or cs k 0) (get_or ls k 0) s at end ≡ false) × (cut_off (get_or cs k 0) (get_or ls k 0) s at end ≡ false))
unfolding scan
scan_11 [] ls i true s at end p e = (let z : ◌≡◌ {A = ℕ} 10 11 = cc in absurd (omega arith), λ k h g. absurd (not-suc-le-zero h))
scan_11 [] ls i false s at end p e = (refl, λ k h g. absurd (not-suc-le-zero h))
scan_11 (c ∷ cs) [] i true s at end p e = (let z : ◌≡◌ {A = ℕ} 10 11 = cc in absurd (omega arith), λ k h g. absurd (not-suc-le-zero g))
scan_11 (c ∷ cs) [] i false s at end p e = (refl, λ k h g. absurd (not-suc-le-zero g))
scan_11 (c ∷ cs) (l ∷ ls) i short s at end p e = step (fits c l s at end) refl (cut_off c l s at end) refl short e (scan_11 cs ls (i + 1))
  where
    step : (f : Bool) → fits c l s at end ≡ f → (k : Bool) → cut_off c l s at end ≡ k → (short : Bool)
        → pick f (got i (at + l)) (scan cs ls (i + 1) (short || k) s at end) ≡ refused 11 p
        → ((short : Bool) (s : List ℕ) (at end p : ℕ) → scan cs ls (i + 1) short s at end ≡ refused 11 p
        → (short ≡ false) × ((k : ℕ) → k < length cs → k < length ls
        → (fits (get_or cs k 0) (get_or ls k 0) s at end ≡ false) × (cut_off (get_or cs k 0) (get_or ls k 0) s at end ≡ false)))
        → (short ≡ false) × ((k : ℕ) → k < suc (length cs) → k < suc (length ls)
        → (fits (get_or (c ∷ cs) k 0) (get_or (l ∷ ls) k 0) s at end ≡ false)
        × (cut_off (get_or (c ∷ cs) k 0) (get_or (l ∷ ls) k 0) s at end ≡ false))
    step true u k v short e r = let z : ◌≡◌ {A = ℕ} 0 1 = cc in absurd (omega arith)
    step false u true v true e r = let w : true ≡ false =
        (r true s at end p e).0 in (w, λ k h g. let z : ◌≡◌ {A = ℕ} 0 1 = cc in absurd (omega arith))
    step false u true v false e r = let w : true ≡ false =
        (r true s at end p e).0 in (refl, λ k h g. let z : ◌≡◌ {A = ℕ} 0 1 = cc in absurd (omega arith))
    step false u false v true e r = let w : true ≡ false =
        (r true s at end p e).0 in (w, λ k h g. let z : ◌≡◌ {A = ℕ} 0 1 = cc in absurd (omega arith))
    step false u false v false e r = (refl, each)
      where
        each : (k : ℕ) → k < suc (length cs) → k < suc (length ls)
            → (fits (get_or (c ∷ cs) k 0) (get_or (l ∷ ls) k 0) s at end ≡ false)
            × (cut_off (get_or (c ∷ cs) k 0) (get_or (l ∷ ls) k 0) s at end ≡ false)
        each zero h g = (u, v)
        each (suc k) h g = (r false s at end p e).1 k (omega arith) (omega arith)

-- what an accepted scan has found
pub scan-got : (cs ls : List ℕ) (i : ℕ) (short : Bool) (s : List ℕ) (at end j next : ℕ) → scan cs ls i short s at end ≡ got j next
    → (k : ℕ) × (k < length cs) × (k < length ls) × (j ≡ i + k) × (fits (get_or cs k 0) (get_or ls k 0) s at end ≡ true)
    × (next ≡ at + get_or ls k 0)
unfolding scan
scan-got [] ls i true s at end j next e = let z : ◌≡◌ {A = ℕ} 0 1 = cc in absurd (omega arith)
scan-got [] ls i false s at end j next e = let z : ◌≡◌ {A = ℕ} 0 1 = cc in absurd (omega arith)
scan-got (c ∷ cs) [] i true s at end j next e = let z : ◌≡◌ {A = ℕ} 0 1 = cc in absurd (omega arith)
scan-got (c ∷ cs) [] i false s at end j next e = let z : ◌≡◌ {A = ℕ} 0 1 = cc in absurd (omega arith)
scan-got (c ∷ cs) (l ∷ ls) i short s at end j next e =
    step (fits c l s at end) refl e (scan-got cs ls (i + 1) (short || (cut_off c l s at end)) s at end j next)
  where
    step : (f : Bool) → fits c l s at end ≡ f
        → pick f (got i (at + l)) (scan cs ls (i + 1) (short || (cut_off c l s at end)) s at end) ≡ got j next
        → (scan cs ls (i + 1) (short || (cut_off c l s at end)) s at end ≡ got j next
        → (k : ℕ) × (k < length cs) × (k < length ls) × (j ≡ i + 1 + k) × (fits (get_or cs k 0) (get_or ls k 0) s at end ≡ true)
        × (next ≡ at + get_or ls k 0))
        → (k : ℕ) × (k < suc (length cs)) × (k < suc (length ls)) × (j ≡ i + k)
        × (fits (get_or (c ∷ cs) k 0) (get_or (l ∷ ls) k 0) s at end ≡ true)
        × (next ≡ at + get_or (l ∷ ls) k 0)
    step true u e r = let q : i ≡ j = cc in (0, omega arith, omega arith, omega arith, u, cc)
    step false u e r = let w = r e in (suc w.0, omega arith, omega arith, omega arith, w.4, w.5)

-- the first word that fits is the answer, where no other does
pub scan-is : (cs ls : List ℕ) (i : ℕ) (short : Bool) (s : List ℕ) (at end k : ℕ) → k < length cs → k < length ls
    → fits (get_or cs k 0) (get_or ls k 0) s at end ≡ true
    → ((j : ℕ) → j < length cs → j < length ls → fits (get_or cs j 0) (get_or ls j 0) s at end ≡ true → j ≡ k)
    → scan cs ls i short s at end ≡ got (i + k) (at + get_or ls k 0)
unfolding scan
scan-is [] ls i short s at end k h g f u = absurd (not-suc-le-zero h)
scan-is (c ∷ cs) [] i short s at end k h g f u = absurd (not-suc-le-zero g)
scan-is (c ∷ cs) (l ∷ ls) i short s at end zero h g f u = simp (f, add-zero)
scan-is (c ∷ cs) (l ∷ ls) i short s at end (suc k) h g f u =
    step (fits c l s at end) refl
    (scan-is cs ls (i + 1) (short || (cut_off c l s at end)) s at end k (omega arith) (omega arith) f
    (λ j a b e. let q = u (suc j) (omega arith) (omega arith) e in omega arith))
  where
    step : (b : Bool) → fits c l s at end ≡ b
        → scan cs ls (i + 1) (short || (cut_off c l s at end)) s at end ≡ got (i + 1 + k) (at + get_or ls k 0)
        → pick b (got i (at + l)) (scan cs ls (i + 1) (short || (cut_off c l s at end)) s at end) ≡ got (i + suc k) (at + get_or ls k 0)
    step true e r = let q = u 0 (omega arith) (omega arith) e in absurd (omega arith)
    step false e r = let q : i + 1 + k ≡ i + suc k = omega arith in rw (← q) r

-- where none fits, and one is cut off, the answer is 10
pub scan_10 : (cs ls : List ℕ) (i : ℕ) (short : Bool) (s : List ℕ) (at end : ℕ)
    → ((j : ℕ) → j < length cs → j < length ls → fits (get_or cs j 0) (get_or ls j 0) s at end ≡ false)
    → (short ≡ true) ⊎ ((k : ℕ) × (k < length cs) × (k < length ls) × (cut_off (get_or cs k 0) (get_or ls k 0) s at end ≡ true))
    → scan cs ls i short s at end ≡ refused 10 at
unfolding scan
scan_10 [] ls i short s at end n (inl e) = simp e
scan_10 [] ls i short s at end n (inr w) = absurd (not-suc-le-zero w.1)
scan_10 (c ∷ cs) [] i short s at end n (inl e) = simp e
scan_10 (c ∷ cs) [] i short s at end n (inr w) = absurd (not-suc-le-zero w.2)
scan_10 (c ∷ cs) (l ∷ ls) i short s at end n (inl e) =
    simp (n 0 (omega arith) (omega arith), e)
    (scan_10 cs ls (i + 1) true s at end (λ j a b. n (suc j) (omega arith) (omega arith)) (inl refl))
scan_10 (c ∷ cs) (l ∷ ls) i short s at end n (inr w) =
    simp (n 0 (omega arith) (omega arith))
    (scan_10 cs ls (i + 1) (short || (cut_off c l s at end)) s at end (λ j a b. n (suc j) (omega arith) (omega arith))
    (next w.0 w.1 w.2 w.3))
  where
    later : (a b : Bool) → b ≡ true → (a || b) ≡ true
    later true b e = refl
    later false b e = e

    next : (k : ℕ) → k < suc (length cs) → k < suc (length ls) → cut_off (get_or (c ∷ cs) k 0) (get_or (l ∷ ls) k 0) s at end ≡ true
        → ((short || (cut_off c l s at end)) ≡ true) ⊎
        ((k : ℕ) × (k < length cs) × (k < length ls) × (cut_off (get_or cs k 0) (get_or ls k 0) s at end ≡ true))
    next zero h g e = inl (later short (cut_off c l s at end) e)
    next (suc k) h g e = inr (k, omega arith, omega arith, e)

pub scan-same : (cs ls : List ℕ) (i : ℕ) (short : Bool) (s t : List ℕ) (at end : ℕ) → at ≤ end → Same s t at end
    → scan cs ls i short s at end ≡ scan cs ls i short t at end
unfolding scan
scan-same [] ls i short s t at end h q = refl
scan-same (c ∷ cs) [] i short s t at end h q = refl
scan-same (c ∷ cs) (l ∷ ls) i short s t at end h q =
    rw (fits-same c l s t at end h q, cut-same c l s t at end h q, scan-same cs ls (i + 1) (short || (cut_off c l t at end)) s t at end h q)

-- where none fits, and none is cut off, the answer is 11
pub scan_neither : (cs ls : List ℕ) (i : ℕ) (s : List ℕ) (at end : ℕ)
    → ((k : ℕ) → k < length cs → k < length ls
    → (fits (get_or cs k 0) (get_or ls k 0) s at end ≡ false) × (cut_off (get_or cs k 0) (get_or ls k 0) s at end ≡ false))
    → scan cs ls i false s at end ≡ refused 11 at
unfolding scan
scan_neither [] ls i s at end n = refl
scan_neither (c ∷ cs) [] i s at end n = refl
scan_neither (c ∷ cs) (l ∷ ls) i s at end n =
    let u = n 0 (omega arith) (omega arith) in
    simp (u.0, u.1) (scan_neither cs ls (i + 1) s at end (λ k a b. n (suc k) (omega arith) (omega arith)))

-- the end of a scan
end_of : (short : Bool) (at n p : ℕ) → ◌≡◌ {A = Answer ℕ} (pick short (refused 10 at) (refused 11 at)) (refused n p)
    → (at ≡ p) × ((n ≡ 10) ⊎ (n ≡ 11))
end_of true at n p e = let z : 10 ≡ n = cc in (same_place {A = ℕ} e, inl (sym z))
end_of false at n p e = let z : 11 ≡ n = cc in (same_place {A = ℕ} e, inr (sym z))

-- a scan is refused where it began, with 10 or 11
pub scan-refused : (cs ls : List ℕ) (i : ℕ) (short : Bool) (s : List ℕ) (at end n p : ℕ) → scan cs ls i short s at end ≡ refused n p
    → (at ≡ p) × ((n ≡ 10) ⊎ (n ≡ 11))
unfolding scan
scan-refused [] ls i short s at end n p e = end_of short at n p e
scan-refused (c ∷ cs) [] i short s at end n p e = end_of short at n p e
scan-refused (c ∷ cs) (l ∷ ls) i short s at end n p e =
    go (fits c l s at end) (scan-refused cs ls (i + 1) (short || cut_off c l s at end) s at end n p) e
  where
    go : (b : Bool) → (scan cs ls (i + 1) (short || cut_off c l s at end) s at end ≡ refused n p → (at ≡ p) × ((n ≡ 10) ⊎ (n ≡ 11)))
        → pick b (got i (at + l)) (scan cs ls (i + 1) (short || cut_off c l s at end) s at end) ≡ refused n p
        → (at ≡ p) × ((n ≡ 10) ⊎ (n ≡ 11))
    go true ih e = not-refused e
    go false ih e = ih e
