-- Contents compared, field by field.
use Rattle.std.specs.Prelude.{List, [], ◌∷◌, Bool, true, false, ◌&&◌, eqb, ℤ, pos, negsuc}
use Rattle.stereo_indices.specs.declared.Row.{Row}
use Rattle.stereo.specs.Extension.{ipds, opds}
use Rattle.stereo.specs.declared.Header.{Header}
use Rattle.stereo.specs.declared.Frame.{Frame}
use Rattle.stereo.specs.declared.Phases.{Phases}
use Rattle.stereo.specs.declared.Body.{Body}
use Rattle.stereo.specs.declared.Part.{Part}
use Rattle.stereo.specs.declared.Extension.{Extension}
use Rattle.stereo.specs.declared.Contents.{Contents}

-- lists of one length, whose elements are the same
abbrev pub same_list : {A : Type 0} → (A → A → Bool) → List A → List A → Bool
same_list same [] [] = true
same_list same [] (y ∷ ys) = false
same_list same (x ∷ xs) [] = false
same_list same (x ∷ xs) (y ∷ ys) = same x y && same_list same xs ys

abbrev pub same_index : ℤ → ℤ → Bool
same_index (pos a) (pos b) = eqb a b
same_index (pos a) (negsuc b) = false
same_index (negsuc a) (pos b) = false
same_index (negsuc a) (negsuc b) = eqb a b

unfoldable pub same_row : Row → Row → Bool
same_row a b = eqb a.time b.time && same_list same_index a.indices b.indices

unfoldable pub same_phases : List Phases → List Phases → Bool
same_phases xs ys = same_list same_row (ipds xs) (ipds ys) && same_list same_row (opds xs) (opds ys)

unfoldable pub same_body : Body → Body → Bool
same_body a b = eqb a.phase b.phase && same_phases a.phases b.phases

unfoldable pub same_part : Part → Part → Bool
same_part a b = eqb a.count b.count && eqb a.value b.value && same_body a.body b.body

unfoldable pub same_extension : Extension → Extension → Bool
same_extension a b = eqb a.there b.there && eqb a.size b.size && eqb a.esc b.esc && same_part a.part b.part

unfoldable pub same_header : Header → Header → Bool
same_header a b =
    eqb a.there b.there && eqb a.iid b.iid && eqb a.iidmode b.iidmode && eqb a.icc b.icc && eqb a.iccmode
    b.iccmode
    && eqb a.ext b.ext

unfoldable pub same_frame : Frame → Frame → Bool
same_frame a b = eqb a.class b.class && eqb a.envelopes b.envelopes && same_list eqb a.borders b.borders

unfoldable pub same_contents : Contents → Contents → Bool
same_contents a b =
    same_header a.header b.header && same_frame a.frame b.frame && same_list same_row a.iid b.iid && same_list same_row
    a.icc b.icc
    && same_extension a.extension b.extension
