-- The rows are listed one by one, and `last` is the record that those read so far leave.
use mathlib.Core.Path.{◌≡◌}
use lib.ListN.{take}
use Rattle.stereo_indices.specs.Rows.{no_row, record_after_rows, row}
use Rattle.stereo_indices.proofs.ListingLaws.{Listing}
use Rattle.stereo_indices.proofs.rows.read_rows.Given as goal

abbrev pub invariant-loop-k : goal.invariant-loop-k
invariant-loop-k l = record {
  listing : Listing 4 no_row l.n (λ rs. row l.kind l.mode (record_after_rows l.initial.last l.mode rs)) l.s.bytes.now l.at l.s.end
      l.rows l.place l.k;
  left : l.last ≡ record_after_rows l.initial.last l.mode (take l.k l.rows);
}
