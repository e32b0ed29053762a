-- Bytes put over others: the length stays, and what is put right after makes one longer run.
-- Assumes nothing.
use Prim.Native.Nat.{ℕ, suc, ◌+◌, ◌≤◌, ◌<◌}
use mathlib.Core.Path.{◌≡◌, refl, sym, ap, ◌∙◌}
use mathlib.Core.List.{List, [], ◌∷◌, ◌++◌, append_assoc}
use native.Mathlib.Omega.{arith}
use native.Mathlib.Numerals.{add-one}
use lib.ListN.{length, take, drop, set, get_or, length-append}
use lib.Seq.{paste, paste-zero, paste-suc, length-paste, take_all, take_at, drop-append-add, drop-drop, length-take-le, set_split}
use lib.Seq.{append_snoc}
use Rattle.bits.specs.Bytes.{over}

-- a whole copy is what was put over
pub pasted : {A : Type 0} (s : List A) (at : ℕ) (xs : List A) → paste s at xs (length xs) ≡ over s at xs
unfolding over
pasted s at xs = rw (take_all (length xs) xs (omega arith))

-- what is left and right of it stays
pub over_parts : {A : Type 0} (s : List A) (at : ℕ) (xs : List A) → over s at xs ≡ take at s ++ (xs ++ drop (length xs) (drop at s))
unfolding over
over_parts {A} s at xs =
    append_assoc (take at s) xs (drop (at + length xs) s) ∙ ap (λ (z : List A). take at s ++ (xs ++ z)) (sym (drop-drop (length xs) at s))

pub over-length : {A : Type 0} (s : List A) (at : ℕ) (xs : List A) → at + length xs ≤ length s → length (over s at xs) ≡ length s
over-length s at xs h = ap length (sym (pasted s at xs)) ∙ length-paste s at xs (length xs) h (omega arith)

front : {A : Type 0} (s : List A) (at : ℕ) (xs : List A) → at ≤ length s → length (take at s ++ xs) ≡ at + length xs
front s at xs h = rw (length-append (take at s) xs, length-take-le at s h)

pub over_then : {A : Type 0} (s : List A) (at k : ℕ) (xs ys : List A) → k ≡ at + length xs → at + (length xs + length ys) ≤ length s
    → over (over s at xs) k ys ≡ over s at (xs ++ ys)
unfolding over
over_then s at k xs ys e h =
    let p = take at s ++ xs in
    let q = drop (at + length xs) s in
    let f : length p ≡ k = front s at xs (omega arith) ∙ sym e in
    let sum : at + length xs + length ys ≡ at + length (xs ++ ys) = rw (length-append xs ys) (omega arith) in
    let past : drop (k + length ys) (p ++ q) ≡ drop (at + length (xs ++ ys)) s =
    ap (λ (n : ℕ). drop (n + length ys) (p ++ q)) (sym f) ∙ drop-append-add p q (length ys) ∙ drop-drop (length ys) (at + length xs) s
    ∙ ap (λ (n : ℕ). drop n s) sum in
    rw (take_at p q k f, past, append_assoc (take at s) xs ys)

-- one more copied at the front
pub paste-front : {A : Type 0} (s xs : List A) (i : ℕ) (z : A) → i < length xs → i < length s
    → set (paste s 0 xs i) i (get_or xs i z) ≡ paste s 0 xs (i + 1)
paste-front s xs i z h k =
    let here : i ≡ 0 + i = omega arith in
    let next : suc i ≡ i + 1 = omega arith in
    ap (λ (n : ℕ). set (paste s 0 xs i) n (get_or xs i z)) here ∙ paste-suc s 0 xs i z (omega arith) (omega arith) ∙ ap (paste s 0 xs) next

-- at the front, what is left of the old follows
pub over-front : {A : Type 0} (s xs : List A) (n : ℕ) → length xs ≡ n → over s 0 xs ≡ xs ++ drop n s
unfolding over
over-front s xs n e = let q : 0 + n ≡ n = omega arith in rw (e, q)

-- n bytes were put over s at a place, and t is what stands there now
abbrev pub Put : List ℕ → ℕ → List ℕ → ℕ → List ℕ → Type 0
Put s at xs n t = (t ≡ over s at xs) × (length xs ≡ n)

pub put-none : (s : List ℕ) (at : ℕ) → Put s at [] 0 s
unfolding over
put-none s at = (paste-zero s at [], refl)

-- a store puts one
pub put_one : (s : List ℕ) (at x : ℕ) → at < length s → Put s at (x ∷ []) 1 (set s at x)
unfolding over
put_one s at x h = (set_split s at x h ∙ rw (add-one, append_snoc (take at s) x (drop (suc at) s)), refl)

-- what is put right after n bytes makes one longer run
pub put_next : {t u : List ℕ} (s : List ℕ) (at : ℕ) (xs : List ℕ) (n : ℕ) (ys : List ℕ) (m : ℕ) → Put s at xs n t
    → Put t (at + n) ys m u → at + (n + m) ≤ length s
    → Put s at (xs ++ ys) (n + m) u
put_next {t} {u} s at xs n ys m (e, l) (f, k) h = (
  f ∙ ap (λ (z : List ℕ). over z (at + n) ys) e
      ∙ over_then s at (at + n) xs ys (omega arith) (omega arith),
  rw (length-append xs ys, l, k),
)

-- bytes that were put, in other words
pub put_as : {t : List ℕ} (s : List ℕ) (at : ℕ) (xs ys : List ℕ) (n m : ℕ) → Put s at xs n t → xs ≡ ys → n ≡ m → Put s at ys m t
put_as s at xs ys n m (e, l) f g = (e ∙ ap (λ (z : List ℕ). over s at z) f, ap length (sym f) ∙ l ∙ g)

-- the length stays
pub put-length : {t : List ℕ} (s : List ℕ) (at : ℕ) (xs : List ℕ) (n : ℕ) → Put s at xs n t → at + n ≤ length s → length t ≡ length s
put-length s at xs n (e, l) h = ap length e ∙ over-length s at xs (omega arith)
