-- The five numbers stand in the part from the place on that is as long as they are.
-- Assumes nothing.
use Prim.Native.Nat.{ℕ, ◌+◌, ◌-◌}
use mathlib.Core.Path.{◌≡◌, sym, ◌∙◌, ap}
use mathlib.Core.List.{List, [], ◌∷◌, ◌++◌, append_assoc}
use native.Mathlib.Omega.{arith}
use lib.ListN.{length, take, drop}
use lib.Seq.{drop-drop}
use Rattle.bits.specs.Bytes.{over}
use Rattle.image_outline.proofs.put_row.Goals as goal

over_parts : (s : List ℕ) (at : ℕ) (xs : List ℕ) → over s at xs ≡ take at s ++ (xs ++ drop (length xs) (drop at s))
unfolding over
over_parts s at xs =
    append_assoc (take at s) xs (drop (at + length xs) s) ∙ ap (λ (z : List ℕ). take at s ++ (xs ++ z)) (sym (drop-drop (length xs) at s))

pub returns : goal.returns
returns c =
    let row = c.args.row in
    let n : c.args.at + 5 - c.args.at ≡ 5 = omega arith in
    rw (n, c.copy_from_slice.ensures.after)
    (sym (over_parts c.args.rows.now c.args.at (row.number ∷ row.place ∷ row.first ∷ row.second ∷ row.bits ∷ [])))
