-- Contents that compare as the same are equal, and all contents compare as the same with themselves.
-- Assumes nothing.
use Prim.Native.Nat.{ℕ}
use mathlib.Core.Path.{◌≡◌, refl, ap, ap₂}
use mathlib.Core.List.{List, [], ◌∷◌}
use mathlib.Core.Bool.{Bool, true, false, ◌&&◌}
use lib.Dec.{eqb}
use lib.IntN.{ℤ, pos, negsuc}
use borrow.Author.Tests.{eqb-true, eq-eqb}
use Rattle.bits.proofs.Bools.{and_both, true-false, and_of}
use Rattle.stereo_writer.specs.Same.{same_list, same_index, same_row, same_phases, same_body, same_part, same_extension}
use Rattle.stereo.specs.Extension.{ipds, opds}
use Rattle.stereo.specs.declared.Phases.{Phases}
use Rattle.stereo_writer.specs.Same.{same_header, same_frame, same_contents}

-- a test of sameness that is right
pub record Right {A : Type 0} (same : A → A → Bool) : Type 0 where
  pub is : (a b : A) → same a b ≡ true → a ≡ b
  pub self : (a : A) → same a a ≡ true

number-right : Right eqb
number-right = record { is = eqb-true; self = λ a. eq-eqb a a refl }

pub index-right : Right same_index
index-right = record { is = is; self = self }
  where
    is : (a b : ℤ) → same_index a b ≡ true → a ≡ b
    is (pos a) (pos b) e = ap pos (eqb-true a b e)
    is (pos a) (negsuc b) e = absurd (true-false false e refl)
    is (negsuc a) (pos b) e = absurd (true-false false e refl)
    is (negsuc a) (negsuc b) e = ap negsuc (eqb-true a b e)

    self : (a : ℤ) → same_index a a ≡ true
    self (pos a) = eq-eqb a a refl
    self (negsuc a) = eq-eqb a a refl

list_right : {A : Type 0} {same : A → A → Bool} → Right same → Right (same_list same)
list_right {A} {same} r = record { is = is; self = self }
  where
    is : (xs ys : List A) → same_list same xs ys ≡ true → xs ≡ ys
    is [] [] e = refl
    is [] (y ∷ ys) e = absurd (true-false false e refl)
    is (x ∷ xs) [] e = absurd (true-false false e refl)
    is (x ∷ xs) (y ∷ ys) e =
        let w = and_both (same x y) (same_list same xs ys) e in
        ap₂ (λ (a : A) (l : List A). a ∷ l) (r.is x y w.0) (is xs ys w.1)

    self : (xs : List A) → same_list same xs xs ≡ true
    self [] = refl
    self (x ∷ xs) = and_of (same x x) (same_list same xs xs) (r.self x) (self xs)

same_number : (a : ℕ) → eqb a a ≡ true
same_number a = eq-eqb a a refl

row-right : Right same_row
unfolding same_row
row-right = record {
  is = λ a b e.
      let x = and_both (eqb a.time b.time) (same_list same_index a.indices b.indices) e in
      let p = eqb-true a.time b.time x.0 in
      let q = (list_right index-right).is a.indices b.indices x.1 in
      λ i. record { time = p i; indices = q i };
  self = λ a. rw (same_number a.time) ((list_right index-right).self a.indices);
}

-- phases whose IPD rows and whose OPD rows are the same are equal
phases_are : (xs ys : List Phases) → same_list same_row (ipds xs) (ipds ys) ≡ true
    → same_list same_row (opds xs) (opds ys) ≡ true → xs ≡ ys
phases_are [] [] e f = refl
phases_are [] (y ∷ ys) e f = absurd (true-false false e refl)
phases_are (x ∷ xs) [] e f = absurd (true-false false e refl)
phases_are (x ∷ xs) (y ∷ ys) e f =
    let v = and_both (same_row x.ipd y.ipd) (same_list same_row (ipds xs) (ipds ys)) e in
    let w = and_both (same_row x.opd y.opd) (same_list same_row (opds xs) (opds ys)) f in
    let p = row-right.is x.ipd y.ipd v.0 in
    let q = row-right.is x.opd y.opd w.0 in
    ap₂ (λ (a : Phases) (l : List Phases). a ∷ l) (λ i. record { ipd = p i; opd = q i }) (phases_are xs ys v.1 w.1)

phases-right : Right same_phases
unfolding same_phases
phases-right = record {
  is = λ xs ys e.
      let ipd = same_list same_row (ipds xs) (ipds ys) in
      let opd = same_list same_row (opds xs) (opds ys) in
      let x = and_both ipd opd e in
      phases_are xs ys x.0 x.1;
  self = λ xs. rw ((list_right row-right).self (ipds xs)) ((list_right row-right).self (opds xs));
}

body-right : Right same_body
unfolding same_body
body-right = record {
  is = λ a b e.
      let x = and_both (eqb a.phase b.phase) (same_phases a.phases b.phases) e in
      let p = eqb-true a.phase b.phase x.0 in
      let q = phases-right.is a.phases b.phases x.1 in
      λ i. record { phase = p i; phases = q i };
  self = λ a. rw (same_number a.phase) (phases-right.self a.phases);
}

part_right : Right same_part
unfolding same_part
part_right = record {
  is = λ a b e.
      let x = and_both (eqb a.count b.count && eqb a.value b.value) (same_body a.body b.body) e in
      let y = and_both (eqb a.count b.count) (eqb a.value b.value) x.0 in
      let p = eqb-true a.count b.count y.0 in
      let q = eqb-true a.value b.value y.1 in
      let r = body-right.is a.body b.body x.1 in
      λ i. record { body = r i; count = p i; value = q i };
  self = λ a. rw (same_number a.count, same_number a.value) (body-right.self a.body);
}

extension-right : Right same_extension
unfolding same_extension
extension-right = record {
  is = λ a b e.
      let x = and_both (eqb a.there b.there && eqb a.size b.size && eqb a.esc b.esc) (same_part a.part b.part) e in
      let y = and_both (eqb a.there b.there && eqb a.size b.size) (eqb a.esc b.esc) x.0 in
      let z = and_both (eqb a.there b.there) (eqb a.size b.size) y.0 in
      let p = eqb-true a.there b.there z.0 in
      let q = eqb-true a.size b.size z.1 in
      let r = eqb-true a.esc b.esc y.1 in
      let s = part_right.is a.part b.part x.1 in
      λ i. record { there = p i; size = q i; esc = r i; part = s i };
  self = λ a. rw (same_number a.there, same_number a.size, same_number a.esc) (part_right.self a.part);
}

header-right : Right same_header
unfolding same_header
header-right = record {
  is = λ a b e.
      let t₁ = eqb a.there b.there in
      let t₂ = eqb a.iid b.iid in
      let t₃ = eqb a.iidmode b.iidmode in
      let t₄ = eqb a.icc b.icc in
      let t₅ = eqb a.iccmode b.iccmode in
      let x₆ = and_both (t₁ && t₂ && t₃ && t₄ && t₅) (eqb a.ext b.ext) e in
      let x₅ = and_both (t₁ && t₂ && t₃ && t₄) t₅ x₆.0 in
      let x₄ = and_both (t₁ && t₂ && t₃) t₄ x₅.0 in
      let x₃ = and_both (t₁ && t₂) t₃ x₄.0 in
      let x₂ = and_both t₁ t₂ x₃.0 in
      let p = eqb-true a.there b.there x₂.0 in
      let q = eqb-true a.iid b.iid x₂.1 in
      let r = eqb-true a.iidmode b.iidmode x₃.1 in
      let s = eqb-true a.icc b.icc x₄.1 in
      let t = eqb-true a.iccmode b.iccmode x₅.1 in
      let u = eqb-true a.ext b.ext x₆.1 in
      λ i. record { there = p i; iid = q i; iidmode = r i; icc = s i; iccmode = t i; ext = u i };
  self = λ a.
      rw (same_number a.there, same_number a.iid, same_number a.iidmode, same_number a.icc, same_number a.iccmode)
      (same_number a.ext);
}

frame_right : Right same_frame
unfolding same_frame
frame_right = record {
  is = λ a b e.
      let x = and_both (eqb a.class b.class && eqb a.envelopes b.envelopes) (same_list eqb a.borders b.borders) e in
      let y = and_both (eqb a.class b.class) (eqb a.envelopes b.envelopes) x.0 in
      let p = eqb-true a.class b.class y.0 in
      let q = eqb-true a.envelopes b.envelopes y.1 in
      let r = (list_right number-right).is a.borders b.borders x.1 in
      λ i. record { class = p i; envelopes = q i; borders = r i };
  self = λ a. rw (same_number a.class, same_number a.envelopes) ((list_right number-right).self a.borders);
}

pub contents-right : Right same_contents
unfolding same_contents
contents-right = record {
  is = λ a b e.
      let t₁ = same_header a.header b.header in
      let t₂ = same_frame a.frame b.frame in
      let t₃ = same_list same_row a.iid b.iid in
      let t₄ = same_list same_row a.icc b.icc in
      let x₅ = and_both (t₁ && t₂ && t₃ && t₄) (same_extension a.extension b.extension) e in
      let x₄ = and_both (t₁ && t₂ && t₃) t₄ x₅.0 in
      let x₃ = and_both (t₁ && t₂) t₃ x₄.0 in
      let x₂ = and_both t₁ t₂ x₃.0 in
      let p = header-right.is a.header b.header x₂.0 in
      let q = frame_right.is a.frame b.frame x₂.1 in
      let r = (list_right row-right).is a.iid b.iid x₃.1 in
      let s = (list_right row-right).is a.icc b.icc x₄.1 in
      let t = extension-right.is a.extension b.extension x₅.1 in
      λ i. record { header = p i; frame = q i; iid = r i; icc = s i; extension = t i };
  self = λ a.
      rw (
        header-right.self a.header,
        frame_right.self a.frame,
        (list_right row-right).self a.iid,
        (list_right row-right).self a.icc,
      )
      (extension-right.self a.extension);
}
