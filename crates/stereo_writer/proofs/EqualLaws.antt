-- What the derived `==` of contents compares is what the definition compares: each field once, in the same order.
-- Assumes nothing.
use mathlib.Core.Path.{◌≡◌, refl, sym, ◌∙◌, ap, ap₂, subst}
use mathlib.Core.List.{List, [], ◌∷◌}
use mathlib.Core.Bool.{Bool, true, false, ◌&&◌}
use lib.Dec.{eqb}
use lib.IntN.{ℤ}
use lib.Pointwise.{pointwise}
use Rattle.std.specs.Cmp.{signed_Decides}
use Rattle.std.specs.Ordering.{int_eq}
use Rattle.stereo_indices.specs.declared.Row.{Row}
use Rattle.stereo.specs.declared.Phases.{Phases}
use Rattle.stereo.specs.declared.Header.{Header}
use Rattle.stereo.specs.declared.Frame.{Frame}
use Rattle.stereo.specs.declared.Extension.{Extension}
use Rattle.stereo.specs.declared.Contents.{Contents}
use Rattle.stereo.specs.Extension.{ipds, opds}
use Rattle.stereo_writer.specs.Same.{same_list, same_index, same_row, same_phases, same_body, same_part, same_extension}
use Rattle.stereo_writer.specs.Same.{same_header, same_frame, same_contents}
use Rattle.stereo_writer.proofs.SameLaws.{index-right}

-- tests that are true together are one
alike : (p q : Bool) → (p ≡ true → q ≡ true) → (q ≡ true → p ≡ true) → p ≡ q
alike true q f g = sym (f refl)
alike false true f g = g refl
alike false false f g = refl

-- tests in another order
regroup : (a b c : Bool) → (a && b && c) ≡ (a && (b && c))
regroup true b c = refl
regroup false b c = refl

crossed : (a b c d : Bool) → ((a && b) && (c && d)) ≡ ((a && c) && (b && d))
crossed true true c d = refl
crossed true false true d = refl
crossed true false false d = refl
crossed false b c d = refl

both : {p q r s : Bool} → p ≡ q → r ≡ s → (p && r) ≡ (q && s)
both = ap₂ (λ (p q : Bool). p && q)

under : (p : Bool) {r s : Bool} → r ≡ s → (p && r) ≡ (p && s)
under p = ap (λ (q : Bool). p && q)

swapped : (t s e b p : Bool) → (t && (s && (e && (b && p)))) ≡ (t && s && e && (p && b))
swapped true true true true true = refl
swapped true true true true false = refl
swapped true true true false true = refl
swapped true true true false false = refl
swapped true true false b p = refl
swapped true false e b p = refl
swapped false s e b p = refl

index_equal : (x y : ℤ) → int_eq x y ≡ same_index x y
index_equal x y =
    alike (int_eq x y) (same_index x y)
    (λ e. subst (λ (z : ℤ). same_index x z ≡ true) ((signed_Decides x y).0 e) (index-right.self x))
    (λ e. (signed_Decides x y).1 (index-right.is x y e))

module _ {A : Type 0} (f g : A → A → Bool) (e : (x y : A) → f x y ≡ g x y) where
  list_equal : (xs ys : List A) → pointwise f xs ys ≡ same_list g xs ys
  list_equal [] [] = refl
  list_equal [] (y ∷ ys) = refl
  list_equal (x ∷ xs) [] = refl
  list_equal (x ∷ xs) (y ∷ ys) = both (e x y) (list_equal xs ys)

-- a row: its time flag, and its indices
abbrev equal_row : Row → Row → Bool
equal_row x y = eqb x.time y.time && pointwise int_eq x.indices y.indices

row_equal : (x y : Row) → equal_row x y ≡ same_row x y
unfolding same_row
row_equal x y = under (eqb x.time y.time) (list_equal int_eq same_index index_equal x.indices y.indices)

rows_equal : (xs ys : List Row) → pointwise equal_row xs ys ≡ same_list same_row xs ys
rows_equal = list_equal equal_row same_row row_equal

-- the phases: each envelope's two rows, where the definition takes one kind's rows after the other's
abbrev equal_phases : Phases → Phases → Bool
equal_phases x y = equal_row x.ipd y.ipd && equal_row x.opd y.opd

phases_equal : (xs ys : List Phases) → pointwise equal_phases xs ys ≡ same_phases xs ys
unfolding same_phases
phases_equal [] [] = refl
phases_equal [] (y ∷ ys) = refl
phases_equal (x ∷ xs) [] = refl
phases_equal (x ∷ xs) (y ∷ ys) =
    both (both (row_equal x.ipd y.ipd) (row_equal x.opd y.opd)) (phases_equal xs ys)
    ∙ crossed (same_row x.ipd y.ipd) (same_row x.opd y.opd) (same_list same_row (ipds xs) (ipds ys))
    (same_list same_row (opds xs) (opds ys))

abbrev equal_extension : Extension → Extension → Bool
equal_extension a b =
    eqb a.there b.there && (eqb a.size b.size && (eqb a.esc b.esc
    && ((eqb a.part.body.phase b.part.body.phase && pointwise equal_phases a.part.body.phases b.part.body.phases)
    && (eqb a.part.count b.part.count && eqb a.part.value b.part.value))))

extension_equal : (a b : Extension) → equal_extension a b ≡ same_extension a b
unfolding same_extension same_part same_body
extension_equal a b =
    let x = a.part in
    let y = b.part in
    under (eqb a.there b.there) (under (eqb a.size b.size) (under (eqb a.esc b.esc)
    (both {r = eqb x.count y.count && eqb x.value y.value}
    (under (eqb x.body.phase y.body.phase) (phases_equal x.body.phases y.body.phases))
    refl)))
    ∙ swapped (eqb a.there b.there) (eqb a.size b.size) (eqb a.esc b.esc)
    (eqb x.body.phase y.body.phase && same_phases x.body.phases y.body.phases) (eqb x.count y.count && eqb x.value y.value)

abbrev equal_header : Header → Header → Bool
equal_header a b =
    eqb a.there b.there && (eqb a.iid b.iid && (eqb a.iidmode b.iidmode && (eqb a.icc b.icc
    && (eqb a.iccmode b.iccmode && eqb a.ext b.ext))))

header_equal : (a b : Header) → equal_header a b ≡ same_header a b
unfolding same_header
header_equal a b = simp regroup

abbrev equal_frame : Frame → Frame → Bool
equal_frame a b = eqb a.class b.class && (eqb a.envelopes b.envelopes && pointwise eqb a.borders b.borders)

frame_equal : (a b : Frame) → equal_frame a b ≡ same_frame a b
unfolding same_frame
frame_equal a b =
    under (eqb a.class b.class) (under (eqb a.envelopes b.envelopes) (list_equal eqb eqb (λ x y. refl) a.borders b.borders))
    ∙ sym (regroup (eqb a.class b.class) (eqb a.envelopes b.envelopes) (same_list eqb a.borders b.borders))

-- contents: what the derived `==` answers is what the definition says
pub contents_equal : (a b : Contents)
    → (equal_header a.header b.header && (equal_frame a.frame b.frame && (pointwise equal_row a.iid b.iid
    && (pointwise equal_row a.icc b.icc && equal_extension a.extension b.extension)))) ≡ same_contents a b
unfolding same_contents
contents_equal a b =
    both (header_equal a.header b.header) (both (frame_equal a.frame b.frame) (both (rows_equal a.iid b.iid)
    (both (rows_equal a.icc b.icc) (extension_equal a.extension b.extension))))
    ∙ five (same_header a.header b.header) (same_frame a.frame b.frame) (same_list same_row a.iid b.iid)
    (same_list same_row a.icc b.icc) (same_extension a.extension b.extension)
  where
    five : (t s r q p : Bool) → (t && (s && (r && (q && p)))) ≡ (t && s && r && q && p)
    five true true true true p = refl
    five true true true false p = refl
    five true true false q p = refl
    five true false r q p = refl
    five false s r q p = refl
