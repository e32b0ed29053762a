-- The words, and the numbers after them, of which there are at most 120.
-- Assumes nothing.
use native.Mathlib.Omega.{arith}
use lib.ListN.{take}
use Rattle.print_rows.specs.InnerEach.{numbers_text}
use Rattle.print_rows.specs.InnerChannelRows.{band_count, bands_row}
use Rattle.print_rows.proofs.EachLaws.{numbers-short}
use Rattle.print_lines.proofs.TextLaws.{two-held}
use Rattle.print_rows.proofs.channels.put_bands.Goals as goal

pub returns : goal.returns
unfolding bands_row
returns c =
    let a = c.args in
    let n = band_count a.r in
    two-held a.line.now a.words.now (numbers_text (take n a.bands.now)) c.put-at.ensures
    (rw c.band_count.ensures at c.put_bytes.ensures)
    (omega (arith, numbers-short n a.bands.now, c.requires))
