-- One writing after another, and one for each of a list.
-- Assumes nothing.
use Prim.Native.Nat.{ℕ, zero, suc, ◌+◌, ◌*◌, ◌≤◌, ◌<◌, min}
use mathlib.Core.Path.{◌≡◌, refl, sym, ◌∙◌, ap, subst}
use mathlib.Core.List.{List, [], ◌∷◌, ◌++◌, append_assoc}
use native.Mathlib.Omega.{arith}
use native.Mathlib.Decide.{dec_le}
use native.Mathlib.Nat.{mul-add, mul-le-mul_left}
use lib.ListN.{length, take, get_or, length-take}
use Rattle.bits.specs.Spelled.{spell_each}
use Rattle.bits.specs.Pieces.{Piece}
use Rattle.bits.specs.Packed.{put_all}
use Rattle.bits.proofs.Spelt.{total-append, append-nil}
use Rattle.bits.proofs.PutLaws.{put-all-more}
use lib.Seq.{take_all}
use Rattle.stereo_indices.specs.Record.{record_of}
use Rattle.stereo_indices.specs.Rows.{record_after_rows}
use Rattle.stereo_indices.specs.declared.Record.{Record}
use Rattle.stereo_indices.specs.declared.Row.{Row}
use Rattle.stereo_writer.specs.InnerWrote.{Wrote}
use Rattle.stereo_writer.specs.declared.scratch.Scratch.{Scratch}

-- another spelling that is the same
pub wrote_as : {a : ℕ} {x y : Scratch} {ps qs : List Piece} → Wrote a x ps y → ps ≡ qs → Wrote a x qs y
wrote_as {a} {x} {y} p e = subst (λ (rs : List Piece). Wrote a x rs y) e p

-- nothing is put
pub wrote_none : {most : ℕ} {x : Scratch} → Wrote most x [] x
unfolding put_all
wrote_none = record { holds = refl; ends = omega arith; short = omega arith }

-- nothing is put where nothing is spelled
pub wrote_nothing : {most : ℕ} {x : Scratch} {ps : List Piece} → [] ≡ ps → Wrote most x ps x
wrote_nothing e = wrote_as wrote_none e

-- one writing after another
pub wrote_then : {a b : ℕ} {x y z : Scratch} {ps qs : List Piece} → Wrote a x ps y → Wrote b y qs z → Wrote (a + b) x (ps ++ qs) z
wrote_then {x = x} {y = y} {ps = ps} {qs = qs} p q = record {
  holds = q.holds ∙ ap (λ (l : List ℕ). put_all l y.at qs) p.holds ∙ ap (λ (k : ℕ). put_all (put_all x.bytes x.at ps) k qs) p.ends
      ∙ sym (put-all-more x.bytes x.at ps qs);
  ends = omega (arith, p.ends, q.ends, total-append ps qs);
  short = omega (arith, p.short, q.short, total-append ps qs);
}

-- fewer is fewer still
pub wrote-most : {a b : ℕ} {x y : Scratch} {ps : List Piece} → Wrote a x ps y → a ≤ b → Wrote b x ps y
wrote-most p h = record { holds = p.holds; ends = p.ends; short = omega (arith, p.short) }

-- one more of a list is spelled after those before it
each-suc : {A : Type 0} (w : List A → A → List Piece) (z : A) (done xs : List A) (i : ℕ) → i < length xs
    → spell_each w done (take i xs) ++ w (done ++ take i xs) (get_or xs i z) ≡ spell_each w done (take (suc i) xs)
each-suc w z done [] i h = absurd (omega arith)
each-suc w z done (x ∷ xs) zero h = simp append-nil
each-suc w z done (x ∷ xs) (suc i) h =
    append_assoc (w done x) _ _
    ∙ ap (λ (ps : List Piece). w done x ++ ps)
    (rw (append_assoc done (x ∷ []) (take i xs)) at (each-suc w z (done ++ x ∷ []) xs i (omega arith)))

each_more : {A : Type 0} (w : List A → A → List Piece) (z : A) (xs : List A) (i : ℕ) → i < length xs
    → spell_each w [] (take i xs) ++ w (take i xs) (get_or xs i z) ≡ spell_each w [] (take (i + 1) xs)
each_more w z xs i h = let e : i + 1 ≡ suc i = omega arith in rw e (each-suc w z [] xs i h)

-- one more of a list is put after those before it
pub wrote_more : {A : Type 0} {a : ℕ} {x y z : Scratch} (w : List A → A → List Piece) (none : A) (xs : List A) (k : ℕ) → k < length xs
    → Wrote (a * k) x (spell_each w [] (take k xs)) y → Wrote a y (w (take k xs) (get_or xs k none)) z
    → Wrote (a * (k + 1)) x (spell_each w [] (take (k + 1) xs)) z
wrote_more {a = a} w none xs k h p q =
    let e : a * (k + 1) ≡ a * k + a = omega (arith, mul-add a k 1) in
    wrote_as (wrote-most (wrote_then p q) (omega (arith, e))) (each_more w none xs k h)

-- the whole of a list, taken in two ways
taken-whole : {A : Type 0} (m n : ℕ) (xs : List A) → length xs ≤ m → length xs ≤ n → take m xs ≡ take n xs
taken-whole m n xs h g = take_all m xs h ∙ sym (take_all n xs g)

-- of four envelopes those that are sent: they are no more than four, and all of them are the first n
sent-few : {A : Type 0} (m : ℕ) (xs : List A) → length xs ≡ 4 → length (take m xs) ≤ 4
sent-few m xs h = rw (length-take m xs) (omega (arith, h))

sent-all : {A : Type 0} (k n m : ℕ) (xs : List A) → length xs ≡ 4 → m ≡ min n 4 → length (take m xs) ≤ k
    → take k (take m xs) ≡ take n xs
sent-all k n m xs h e g =
    take_all k (take m xs) g
    ∙ elim (dec_le n 4) [
      | yes u ↦ ap (λ (i : ℕ). take i xs) (omega arith)
      | no u ↦ taken-whole m n xs (omega arith) (omega arith)
    ]

-- once all that are sent are put, the first n are
pub wrote_sent : {A : Type 0} {x y : Scratch} (a : ℕ) (w : List A → A → List Piece) (n m k : ℕ) (xs : List A) → length xs ≡ 4 → m ≡ min n 4
    → length (take m xs) ≤ k → k ≤ length (take m xs)
    → Wrote (a * k) x (spell_each w [] (take k (take m xs))) y → Wrote (a * 4) x (spell_each w [] (take n xs)) y
wrote_sent a w n m k xs h e g f p =
    let four : k ≤ 4 = omega (arith, f, sent-few m xs h) in
    wrote_as (wrote-most p (mul-le-mul_left a four)) (ap (spell_each w []) (sent-all k n m xs h e g))

-- the record after one more of what holds a row: f is the row that it holds, g the rows that a list of them holds
module _ {A : Type 0} (f : A → Row) (g : List A → List Row) (none : g [] ≡ [])
    (each : (x : A) (xs : List A) → g (x ∷ xs) ≡ f x ∷ g xs) where
  record-suc : (h : Record) (mode : ℕ) (xs : List A) (k : ℕ) (z : A) → k < length xs
      → record_after_rows h mode (g (take (suc k) xs)) ≡ record_of mode (f (get_or xs k z)).indices
  record-suc h mode [] k z l = absurd (omega arith)
  record-suc h mode (x ∷ xs) zero z l = rw (each x [], none)
  record-suc h mode (x ∷ xs) (suc k) z l =
      rw (each x (take (suc k) xs)) (record-suc (record_of mode (f x).indices) mode xs k z (omega arith))

  pub record-more : (h : Record) (mode : ℕ) (xs : List A) (k : ℕ) (z : A) → k < length xs
      → record_of mode (f (get_or xs k z)).indices ≡ record_after_rows h mode (g (take (k + 1) xs))
  record-more h mode xs k z l = let e : k + 1 ≡ suc k = omega arith in rw e (sym (record-suc h mode xs k z l))
