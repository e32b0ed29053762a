-- An entry stands at its table's first place plus its number; past the table there is no word.
use native.Mathlib.Omega.{arith}
use Rattle.tables.proofs.LentLaws.{stands, entry_at, no_entry}
use Rattle.tables.proofs.lent_words.StereoWords.word.Goals as goal

pub returns-then-last-first : goal.returns-then-last-first
returns-then-last-first c =
    let s = stands c.args.self.now.lent c.args.t c.requires.0 c.requires.1 in
    (no_entry c.args.t c.args.entry (omega arith), omega arith)

pub returns : goal.returns
returns c =
    let s = stands c.args.self.now.lent c.args.t c.requires.0 c.requires.1 in
    entry_at c.args.self.now.lent c.args.t c.requires.0 c.requires.1 c.args.entry (omega arith)

pub overflow_sub-last-2 : goal.overflow_sub-last-2
overflow_sub-last-2 c =
    let s = stands c.args.self.now.lent c.args.t c.requires.0 c.requires.1 in
    omega arith

pub bounds-self-first : goal.bounds-self-first
bounds-self-first c =
    let s = stands c.args.self.now.lent c.args.t c.requires.0 c.requires.1 in
    omega arith
