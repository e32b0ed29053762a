-- The prefix rule and the Kraft sum of any table, from the tests that are computed over it: at most one word is a prefix of some bits; and
-- where the sum is 2 ^ M one always is.
-- Assumes nothing.
use Prim.Native.Nat.{ℕ, zero, suc, ◌+◌, ◌-◌, ◌*◌, ◌/◌, ◌^◌, ◌<◌, ◌≤◌}
use mathlib.Core.Path.{◌≡◌, refl, ◌∙◌, ap}
use mathlib.Core.Bool.{Bool, true, false, not, ◌&&◌, ◌||◌}
use mathlib.Core.List.{List, [], ◌∷◌}
use mathlib.Core.Logic.{◌⊎◌, inl, inr}
use native.Mathlib.Omega.{arith}
use native.Mathlib.Decide.{dec_le, ℕ_discrete}
use native.Mathlib.Nat.{not-suc-le-zero}
use lib.Dec.{T, leb, ltb, eqb, leb→le, ltb→lt}
use lib.Pow.{pow_pos, pow-add, shr-shr}
use lib.Arith.{digits_lt}
use lib.ListN.{length, get_or}
use borrow.Author.Tests.{eq-eqb, ne_eqb, le-leb}
use Rattle.bits.proofs.Bools.{and_left, and_right}
use Rattle.words.specs.Table.{is_prefix, apart, prefix_free, kraft, sized}
use Rattle.words.proofs.CountLaws.{one, sum, sum-add, sum-zero, sum-full, sum-gap, count-div}

-- the word c of l bits is a prefix of the M bits x
abbrev pub covers : ℕ → ℕ → ℕ → ℕ → Bool
covers M c l x = eqb (x / 2 ^ (M - l)) c

-- how many words are
abbrev pub hits : ℕ → List ℕ → List ℕ → ℕ → ℕ
hits M [] ls x = 0
hits M (c ∷ cs) [] x = 0
hits M (c ∷ cs) (l ∷ ls) x = one (covers M c l x) + hits M cs ls x

-- of two words that are prefixes of the same bits, the shorter is a prefix of the longer
pub prefix_of : (M c l d m x : ℕ) → l ≤ m → m ≤ M → x / 2 ^ (M - l) ≡ c → x / 2 ^ (M - m) ≡ d → is_prefix c l d m ≡ true
prefix_of M c l d m x h g p q =
    let e : M - l ≡ (M - m) + (m - l) = omega arith in
    let z : d / 2 ^ (m - l) ≡ c = rw (← q, shr-shr, ← e) p in
    simp (le-leb _ _ h, eq-eqb _ _ z)

-- a word that covers x leaves nothing to the words that it is apart from
apart_none : (M c l x : ℕ) (ds ms : List ℕ) → l ≤ M → T (apart c l ds ms) → T (sized M ds ms) → x / 2 ^ (M - l) ≡ c → hits M ds ms x ≡ 0
apart_none M c l x [] ms h a z p = refl
apart_none M c l x (d ∷ ds) [] h a z p = refl
apart_none M c l x (d ∷ ds) (m ∷ ms) h a z p =
    let a₁ = and_left (not (is_prefix c l d m || is_prefix d m c l)) (apart c l ds ms) a in
    let a₂ = and_right (not (is_prefix c l d m || is_prefix d m c l)) (apart c l ds ms) a in
    let z₁ = and_left (leb m M && ltb d (2 ^ m)) (sized M ds ms) z in
    let z₂ = and_right (leb m M && ltb d (2 ^ m)) (sized M ds ms) z in
    let g : m ≤ M = leb→le m M (and_left (leb m M) (ltb d (2 ^ m)) z₁) in
    let r = apart_none M c l x ds ms h a₂ z₂ p in
    let n : x / 2 ^ (M - m) ≡ d → ⊥ = λ q. clash d m g a₁ q in
    simp (ne_eqb _ _ n) (omega arith)
  where
    clash : (d m : ℕ) → m ≤ M → T (not (is_prefix c l d m || is_prefix d m c l)) → x / 2 ^ (M - m) ≡ d → ⊥
    clash d m g t q =
        elim (dec_le l m) [
          | yes u ↦ no-left (is_prefix c l d m) (is_prefix d m c l) (prefix_of M c l d m x u g p q) t
          | no u ↦ no-right (is_prefix c l d m) (is_prefix d m c l) (prefix_of M d m c l x (omega arith) h q p) t
        ]
      where
        no-left : (a b : Bool) → a ≡ true → T (not (a || b)) → ⊥
        no-left a b e t = rw e at t

        no-right : (a b : Bool) → b ≡ true → T (not (a || b)) → ⊥
        no-right true b e t = t
        no-right false b e t = rw e at t

-- at most one word of a prefix-free table is a prefix of the bits
pub hits-le : (M x : ℕ) (cs ls : List ℕ) → T (prefix_free cs ls) → T (sized M cs ls) → hits M cs ls x ≤ 1
hits-le M x [] ls f z = omega arith
hits-le M x (c ∷ cs) [] f z = omega arith
hits-le M x (c ∷ cs) (l ∷ ls) f z =
    let f₁ = and_left (apart c l cs ls) (prefix_free cs ls) f in
    let f₂ = and_right (apart c l cs ls) (prefix_free cs ls) f in
    let z₁ = and_left (leb l M && ltb c (2 ^ l)) (sized M cs ls) z in
    let z₂ = and_right (leb l M && ltb c (2 ^ l)) (sized M cs ls) z in
    let g : l ≤ M = leb→le l M (and_left (leb l M) (ltb c (2 ^ l)) z₁) in
    elim (ℕ_discrete (x / 2 ^ (M - l)) c) [
      | yes e ↦ let r = apart_none M c l x cs ls g f₁ z₂ e in simp (eq-eqb _ _ e) (omega arith)
      | no n ↦ simp (ne_eqb _ _ n) (omega (arith, hits-le M x cs ls f₂ z₂))
    ]

-- how many of the M-bit numbers a word covers
word_count : (M c l : ℕ) → l ≤ M → c < 2 ^ l → sum (λ x. one (covers M c l x)) (2 ^ M) ≡ 2 ^ (M - l)
word_count M c l h g =
    let k = 2 ^ (M - l) in
    let kp : 0 < 2 ^ (M - l) = pow_pos (M - l) in
    let e : 2 ^ M ≡ 2 ^ l * 2 ^ (M - l) = ap (λ (z : ℕ). 2 ^ z) (let q : M ≡ l + (M - l) = omega arith in q) ∙ pow-add 2 l (M - l) in
    let d : c * 2 ^ (M - l) + (2 ^ (M - l) - 1) < 2 ^ l * 2 ^ (M - l) = digits_lt g (omega arith) in
    count-div k c (2 ^ M) kp ∙ omega arith

pub hits-sum : (M : ℕ) (cs ls : List ℕ) → length cs ≡ length ls → T (sized M cs ls) → sum (hits M cs ls) (2 ^ M) ≡ kraft M ls
hits-sum M [] [] e z = sum-zero (2 ^ M)
hits-sum M [] (l ∷ ls) e z = absurd (omega arith)
hits-sum M (c ∷ cs) [] e z = absurd (omega arith)
hits-sum M (c ∷ cs) (l ∷ ls) e z =
    let z₁ = and_left (leb l M && ltb c (2 ^ l)) (sized M cs ls) z in
    let z₂ = and_right (leb l M && ltb c (2 ^ l)) (sized M cs ls) z in
    let g : l ≤ M = leb→le l M (and_left (leb l M) (ltb c (2 ^ l)) z₁) in
    let w : c < 2 ^ l = ltb→lt c (2 ^ l) (and_right (leb l M) (ltb c (2 ^ l)) z₁) in
    sum-add (λ x. one (covers M c l x)) (hits M cs ls) (2 ^ M)
    ∙ omega (arith, word_count M c l g w, hits-sum M cs ls (omega arith) z₂)

-- a word that is hit has a place
pub hit_at : (M : ℕ) (cs ls : List ℕ) (x : ℕ) → 0 < hits M cs ls x
    → (i : ℕ) × (i < length cs) × (i < length ls) × (x / 2 ^ (M - get_or ls i 0) ≡ get_or cs i 0)
hit_at M [] ls x h = absurd (not-suc-le-zero h)
hit_at M (c ∷ cs) [] x h = absurd (not-suc-le-zero h)
hit_at M (c ∷ cs) (l ∷ ls) x h =
    elim (ℕ_discrete (x / 2 ^ (M - l)) c) [
      | yes e ↦ (0, omega arith, omega arith, e)
      | no n ↦
          let g : 0 < 0 + hits M cs ls x = rw (ne_eqb _ _ n) at h in
          let r = hit_at M cs ls x (omega arith) in
          (suc r.0, omega arith, omega arith, r.3)
    ]

-- a prefix-free table whose Kraft sum is 1: some word is a prefix of any M bits
pub covered-by : (M : ℕ) (cs ls : List ℕ) → length cs ≡ length ls → T (sized M cs ls) → T (prefix_free cs ls) → kraft M ls ≡ 2 ^ M
    → (x : ℕ) → x < 2 ^ M → (i : ℕ) × (i < length cs) × (i < length ls) × (x / 2 ^ (M - get_or ls i 0) ≡ get_or cs i 0)
covered-by M cs ls e z f k x h =
    let q = sum-full (hits M cs ls) (2 ^ M) (λ y g. hits-le M y cs ls f z) (hits-sum M cs ls e z ∙ k) x h in
    hit_at M cs ls x (omega arith)

-- one whose Kraft sum is below 1: of some M bits none is
pub gap : (M : ℕ) (cs ls : List ℕ) → length cs ≡ length ls → T (sized M cs ls) → kraft M ls < 2 ^ M
    → (x : ℕ) × (x < 2 ^ M) × (hits M cs ls x ≡ 0)
gap M cs ls e z k = sum-gap (hits M cs ls) (2 ^ M) (rw (← hits-sum M cs ls e z) at k)

-- the prefix rule at two places of a table
neither_l : (a b : Bool) → T (not (a || b)) → a ≡ true → ⊥
neither_l a b t e = rw e at t

neither_r : (a b : Bool) → T (not (a || b)) → b ≡ true → ⊥
neither_r true b t e = t
neither_r false b t e = rw e at t

apart-at : (c l : ℕ) (ds ms : List ℕ) → T (apart c l ds ms) → (k : ℕ) → k < length ds → k < length ms
    → T (not ((is_prefix c l (get_or ds k 0) (get_or ms k 0)) || (is_prefix (get_or ds k 0) (get_or ms k 0) c l)))
apart-at c l [] ms a k h g = absurd (not-suc-le-zero h)
apart-at c l (d ∷ ds) [] a k h g = absurd (not-suc-le-zero g)
apart-at c l (d ∷ ds) (m ∷ ms) a zero h g = and_left (not (is_prefix c l d m || is_prefix d m c l)) (apart c l ds ms) a
apart-at c l (d ∷ ds) (m ∷ ms) a (suc k) h g =
    apart-at c l ds ms (and_right (not (is_prefix c l d m || is_prefix d m c l)) (apart c l ds ms) a) k (omega arith) (omega arith)

-- a word is comparable with none of the words that it is apart from
pub apart_clash : (c l : ℕ) (ds ms : List ℕ) → T (apart c l ds ms) → (k : ℕ) → k < length ds → k < length ms
    → ((is_prefix c l (get_or ds k 0) (get_or ms k 0) ≡ true) ⊎ (is_prefix (get_or ds k 0) (get_or ms k 0) c l ≡ true)) → ⊥
apart_clash c l ds ms a k h g (inl e) = neither_l _ (is_prefix (get_or ds k 0) (get_or ms k 0) c l) (apart-at c l ds ms a k h g) e
apart_clash c l ds ms a k h g (inr e) = neither_r (is_prefix c l (get_or ds k 0) (get_or ms k 0)) _ (apart-at c l ds ms a k h g) e

pub prefix_rule : (cs ls : List ℕ) → T (prefix_free cs ls) → (i j : ℕ) → i < length cs → i < length ls → j < length cs → j < length ls
    → is_prefix (get_or cs i 0) (get_or ls i 0) (get_or cs j 0) (get_or ls j 0) ≡ true → i ≡ j
prefix_rule [] ls f i j h h' g g' e = absurd (not-suc-le-zero h)
prefix_rule (c ∷ cs) [] f i j h h' g g' e = absurd (not-suc-le-zero h')
prefix_rule (c ∷ cs) (l ∷ ls) f zero zero h h' g g' e = refl
prefix_rule (c ∷ cs) (l ∷ ls) f zero (suc j) h h' g g' e =
    absurd (neither_l _ (is_prefix (get_or cs j 0) (get_or ls j 0) c l)
    (apart-at c l cs ls (and_left (apart c l cs ls) (prefix_free cs ls) f) j (omega arith) (omega arith)) e)
prefix_rule (c ∷ cs) (l ∷ ls) f (suc i) zero h h' g g' e =
    absurd (neither_r (is_prefix c l (get_or cs i 0) (get_or ls i 0)) _
    (apart-at c l cs ls (and_left (apart c l cs ls) (prefix_free cs ls) f) i (omega arith) (omega arith)) e)
prefix_rule (c ∷ cs) (l ∷ ls) f (suc i) (suc j) h h' g g' e =
    ap suc (prefix_rule cs ls (and_right (apart c l cs ls) (prefix_free cs ls) f) i j (omega arith) (omega arith) (omega arith)
    (omega arith) e)

-- each length is at most M
pub sized-at : (M : ℕ) (cs ls : List ℕ) → T (sized M cs ls) → (k : ℕ) → k < length cs → k < length ls → get_or ls k 0 ≤ M
sized-at M [] ls z k h g = absurd (not-suc-le-zero h)
sized-at M (c ∷ cs) [] z k h g = absurd (not-suc-le-zero g)
sized-at M (c ∷ cs) (l ∷ ls) z zero h g =
    leb→le l M (and_left (leb l M) (ltb c (2 ^ l)) (and_left (leb l M && ltb c (2 ^ l)) (sized M cs ls) z))
sized-at M (c ∷ cs) (l ∷ ls) z (suc k) h g =
    sized-at M cs ls (and_right (leb l M && ltb c (2 ^ l)) (sized M cs ls) z) k (omega arith) (omega arith)

-- a word that covers the bits is a hit
pub hit_some : (M : ℕ) (cs ls : List ℕ) (x i : ℕ) → i < length cs → i < length ls → x / 2 ^ (M - get_or ls i 0) ≡ get_or cs i 0
    → 0 < hits M cs ls x
hit_some M [] ls x i h g e = absurd (not-suc-le-zero h)
hit_some M (c ∷ cs) [] x i h g e = absurd (not-suc-le-zero g)
hit_some M (c ∷ cs) (l ∷ ls) x zero h g e = simp (eq-eqb _ _ e) (omega arith)
hit_some M (c ∷ cs) (l ∷ ls) x (suc i) h g e = omega (arith, hit_some M cs ls x i (omega arith) (omega arith) e)
