-- An envelope of the four is in the array.
-- Assumes nothing.
use mathlib.Core.Path.{◌≡◌}
use native.Mathlib.Omega.{arith}
use lib.ListN.{length}
use Rattle.stereo_indices.specs.Rows.{no_row}
use Rattle.stereo.proofs.TurnLaws.{get_d_there}
use borrow.Author.Rules.{rules}
use Rattle.print_rows.proofs.envelopes.row_of.Goals as goal

pub returns : goal.returns
returns c =
    let a = c.args in
    let four : length a.rows ≡ 4 = search rules in
    get_d_there a.rows a.e _ no_row (omega arith)
