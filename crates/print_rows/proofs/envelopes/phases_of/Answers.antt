-- An envelope of the four is in the array.
-- Assumes nothing.
use mathlib.Core.Path.{◌≡◌}
use native.Mathlib.Omega.{arith}
use lib.ListN.{length}
use Rattle.stereo.specs.Extension.{no_phases}
use Rattle.stereo.proofs.TurnLaws.{get_d_there}
use borrow.Author.Rules.{rules}
use Rattle.print_rows.proofs.envelopes.phases_of.Goals as goal

pub returns : goal.returns
returns c =
    let a = c.args in
    let four : length a.phases ≡ 4 = search rules in
    get_d_there a.phases a.e _ no_phases (omega arith)
