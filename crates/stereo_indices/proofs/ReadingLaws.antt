-- The reading laws of an index, of indices, of a row and of rows.
-- Assumes nothing.
use Prim.Native.Nat.{ℕ}
use mathlib.Core.List.{List}
use mathlib.Core.Bool.{Bool}
use lib.IntN.{ℤ}
use Rattle.bits.proofs.Lawful.{Lawful, bind_lawful, give-lawful, pick-lawful, expecting-lawful}
use Rattle.bits.proofs.FieldLaws.{field-lawful}
use Rattle.bits.proofs.LoopLaws.{listed-lawful}
use Rattle.tables.proofs.Rules.{lawful-at}
use Rattle.stereo_indices.specs.Difference.{difference}
use Rattle.tables.specs.Tables.{word_of}
use Rattle.stereo_indices.proofs.KindLaws.{of_table}
use Rattle.stereo_indices.specs.Indices.{index_from, index, indices}
use Rattle.stereo_indices.specs.Rows.{row, rows_of, rows}
use Rattle.stereo_indices.specs.declared.Kind.{Kind}
use Rattle.stereo_indices.specs.declared.Record.{Record}

ruleset lawful = (bind_lawful, field-lawful, give-lawful, expecting-lawful, pick-lawful, listed-lawful)

difference-lawful : (k : Kind) (mode time : ℕ) → Lawful (difference k mode time)
unfolding difference
difference-lawful = of_table (λ t. Lawful (word_of t)) (λ i h. lawful-at i)

pub index-lawful : (k : Kind) (mode time : ℕ) (before xs : List ℤ) → Lawful (index k mode time before xs)
unfolding index index_from
index-lawful k mode time before xs = search (lawful, difference-lawful) depth 8

pub indices-lawful : (k : Kind) (mode time : ℕ) (before : List ℤ) → Lawful (indices k mode time before)
unfolding indices
indices-lawful k mode time before = search (lawful, index-lawful) depth 8

pub row_lawful : (k : Kind) (mode : ℕ) (h : Record) → Lawful (row k mode h)
unfolding row
row_lawful k mode h = search (lawful, indices-lawful) depth 8

pub rows-lawful : (k : Kind) (on : Bool) (mode : ℕ) (h : Record) (n : ℕ) → Lawful (rows k on mode h n)
unfolding rows rows_of
rows-lawful k on mode h n = search (lawful, row_lawful) depth 8
