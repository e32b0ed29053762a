-- The words, and 34 indices after them.
-- Assumes nothing.
use mathlib.Core.Path.{◌≡◌}
use native.Mathlib.Omega.{arith}
use lib.ListN.{length}
use Rattle.print_rows.specs.InnerEach.{indices_text}
use Rattle.print_rows.proofs.EachLaws.{indices-short}
use Rattle.print_lines.proofs.TextLaws.{two-held}
use borrow.Author.Rules.{rules}
use Rattle.print_rows.proofs.envelopes.put_row.Goals as goal

pub returns : goal.returns
returns c =
    let a = c.args in
    let long : 34 ≡ length a.row.indices = search rules in
    two-held a.line.now a.words.now (indices_text a.row.indices) c.put-at.ensures c.put_indices.ensures
    (omega (arith, indices-short a.row.indices, c.requires))
