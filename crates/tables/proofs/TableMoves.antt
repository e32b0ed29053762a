-- A word of a table is accepted wherever its bits stand.
-- Assumes nothing.
use Prim.Native.Nat.{ℕ}
use Rattle.bits.proofs.Moves.{Moves}
use Rattle.words.proofs.WordMoves.{word-moves}
use Rattle.tables.specs.Tables.{codes_of, lens_of, word_of}
use Rattle.tables.specs.GeneratedNames.{table_at}
use Rattle.tables.proofs.Rules.{free-at}

pub moves-at : (i : ℕ) → Moves (word_of (table_at i))
moves-at i = word-moves (codes_of (table_at i)) (lens_of (table_at i)) (free-at i)
