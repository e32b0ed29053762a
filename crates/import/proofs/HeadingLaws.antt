-- Pairs of bytes, one after another, make the offsets, and these the header.
-- Assumes nothing.
use Prim.Native.Nat.{ℕ, zero, suc, ◌+◌, ◌-◌, ◌*◌, ◌/◌, ◌≤◌}
use mathlib.Core.Path.{◌≡◌, refl, ap₂, ◌∙◌}
use mathlib.Core.List.{List, [], ◌∷◌, ◌++◌}
use native.Mathlib.Omega.{arith}
use native.Mathlib.Numerals.{add-one}
use lib.ListN.{length, get_or, set, length-set, length-append}
use Rattle.bits.specs.Bytes.{byte_of, over}
use Rattle.bits.proofs.OverLaws.{Put, put_one, put_next}
use Rattle.import.specs.InnerHeading.{pair_of, start_of, offsets_of, heading_of}

pub pair_long : (x : ℕ) → length (pair_of x) ≡ 2
unfolding pair_of
pair_long x = refl

-- two stores make a pair
pub pair_put : (s : List ℕ) (at x high low : ℕ) → at + 2 ≤ length s → high ≡ byte_of (x / 256) → low ≡ byte_of x
    → set (set s at high) (at + 1) low ≡ over s at (pair_of x)
unfolding pair_of
pair_put s at x high low h e f =
    let first = put_one s at high (omega arith) in
    let both = put_next s at _ 1 _ 1 first (put_one (set s at high) (at + 1) low (simp length-set (omega arith))) (omega arith) in
    both.0 ∙ ap₂ (λ (a b : ℕ). over s at (a ∷ b ∷ [])) e f

-- where the next stream starts
pub start-next : (ends : List ℕ) (k : ℕ) → (k ≡ 0 → ⊥) → get_or ends (k - 1) 0 + 1 ≡ start_of ends k
unfolding start_of
start-next ends zero h = absurd (h refl)
start-next ends (suc k) h = let e : suc k - 1 ≡ k = omega arith in rw e

pub start_first : (ends : List ℕ) (k : ℕ) → k ≡ 0 → 0 ≡ start_of ends k
unfolding start_of
start_first ends k e = rw e

-- the offsets of one stream more
pub offsets_more : (base : ℕ) (ends : List ℕ) (k : ℕ)
    → offsets_of base ends k ++ (pair_of (base + start_of ends k) ++ pair_of (base + get_or ends k 0)) ≡ offsets_of base ends (k + 1)
unfolding offsets_of
offsets_more base ends k = rw (add-one k)

pub offsets_none : (base : ℕ) (ends : List ℕ) → [] ≡ offsets_of base ends 0
unfolding offsets_of
offsets_none base ends = refl

pub both_long : (x y : ℕ) → length (pair_of x ++ pair_of y) ≡ 4
unfolding pair_of
both_long x y = refl

-- a pair is put, as a run of two
pub pair_run : {t : List ℕ} (s : List ℕ) (at x : ℕ) → t ≡ over s at (pair_of x) → Put s at (pair_of x) 2 t
pair_run s at x e = (e, pair_long x)

-- two pairs, one after the other
pub both_put : {t u : List ℕ} (s : List ℕ) (at base a b a' b' : ℕ) → at + 4 ≤ length s → t ≡ over s at (pair_of (base + a')) → a' ≡ a
    → u ≡ over t (at + 2) (pair_of (base + b')) → b' ≡ b → u ≡ over s at (pair_of (base + a) ++ pair_of (base + b))
both_put {t} {u} s at base a b a' b' h e f g k =
    let p : Put s at (pair_of (base + a)) 2 t = rw f at (pair_run s at (base + a') e) in
    let q : Put t (at + 2) (pair_of (base + b)) 2 u = rw k at (pair_run t (at + 2) (base + b') g) in
    (put_next s at (pair_of (base + a)) 2 (pair_of (base + b)) 2 p q (omega arith)).0

pub offsets_long : (base : ℕ) (ends : List ℕ) (k : ℕ) → length (offsets_of base ends k) ≡ 4 * k
unfolding offsets_of
offsets_long base ends zero = refl
offsets_long base ends (suc k) =
    let both = both_long (base + start_of ends k) (base + get_or ends k 0) in
    length-append (offsets_of base ends k) _ ∙ ap₂ ◌+◌ (offsets_long base ends k) both ∙ omega arith

-- the count, the index, the offsets and the end, one after another
module _ {t u v w : List ℕ} (s : List ℕ) (at index k last : ℕ) (ends : List ℕ) (room : at + 4 * k + 6 ≤ length s) where
  pub heading-put : t ≡ over s at (pair_of (2 * k)) → u ≡ over t (at + 2) (pair_of index) →
      v ≡ over u (at + 4) (offsets_of (4 * k + 6) ends k)
      → last ≡ start_of ends k → w ≡ over v (at + 4 + 4 * k) (pair_of (4 * k + 6 + last)) → w ≡ over s at (heading_of index ends k)
  unfolding heading_of
  heading-put e f g l h =
      let e4 : at + 4 + 4 * k ≡ at + (4 + 4 * k) = omega arith in
      let p1 = pair_run s at (2 * k) e in
      let p2 = put_next s at _ 2 (pair_of index) 2 p1 (pair_run t (at + 2) index f) (omega arith) in
      let q : Put u (at + 4) (offsets_of (4 * k + 6) ends k) (4 * k) v = (g, offsets_long (4 * k + 6) ends k) in
      let p3 = put_next s at _ 4 (offsets_of (4 * k + 6) ends k) (4 * k) p2 q (omega arith) in
      let z : Put v (at + (4 + 4 * k)) (pair_of (4 * k + 6 + start_of ends k)) 2 w =
      rw (e4, l) at (pair_run v (at + 4 + 4 * k) (4 * k + 6 + last) h) in
      (put_next s at _ (4 + 4 * k) (pair_of (4 * k + 6 + start_of ends k)) 2 p3 z (omega arith)).0
