-- A word that is accepted at one place is accepted wherever its bits stand: no other word of a prefix-free table fits there. So is an
-- escape.
-- Assumes nothing.
use Prim.Native.Nat.{ℕ, zero, suc, ◌+◌}
use mathlib.Core.Path.{sym, ◌∙◌, ap}
use mathlib.Core.List.{List}
use native.Mathlib.Omega.{arith}
use lib.Dec.{T, eqb}
use lib.ListN.{get_or}
use Rattle.bits.specs.Reader.{got}
use Rattle.bits.specs.Field.{field}
use Rattle.bits.proofs.Moves.{Moves, alike-bits, same-moves, give-moves, refuse-moves, field-moves, pick-moved, bind_moves, one_field-moves}
use Rattle.words.specs.Words.{word}
use Rattle.words.specs.Table.{prefix_free}
use Rattle.words.specs.Escape.{ones, escape}
use Rattle.words.proofs.WordLaws.{word_fit, word_back}

pub word-moves : (cs ls : List ℕ) → T (prefix_free cs ls) → Moves (word cs ls)
word-moves cs ls free =
    same-moves λ s at end next k e.
    let w = word_fit cs ls s at end k next e in (
      omega arith,
      λ t at' end' next' d h q.
          let b = alike-bits s at t at' (get_or ls k 0) (λ i l. q i (omega arith)) in
          (word_back cs ls k free w.0 w.1).law t at' end' (sym b ∙ w.2, tt) (omega arith) ∙ ap (got k) (omega arith),
    )

ones-moves : (k n : ℕ) → Moves (ones k n)
unfolding ones
ones-moves zero n = refuse-moves 26
ones-moves (suc k) n = bind_moves (field 1) _ (field-moves 1) (λ one. pick-moved (eqb one 1) (ones-moves k (n + 1)) (give-moves n))

pub escape-moves : Moves escape
unfolding escape
escape-moves = search (bind_moves, field-moves, give-moves, one_field-moves, ones-moves) depth 8
