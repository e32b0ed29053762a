-- The lookup of the table is a right one, so what is looked up is the word.
use mathlib.Core.Path.{◌∙◌}
use native.Mathlib.Omega.{arith}
use Rattle.tables.proofs.LentLaws.{looked-of}
use Rattle.tables.proofs.lookups.Lookups.word.Goals as goal

pub returns : goal.returns
returns g c =
    let l = c.args.self.now.lent c.args.t c.requires.0 c.requires.1 in
    c.read_word.ensures ∙ looked-of c.args.t (omega (arith, c.args.self.now.known)) l c.of-lookup.ensures.0 _ _ _
