-- The book, the first line and the width of the band are those of the tables.
use native.Mathlib.Numerals.{add-one}
use Rattle.channel_bands.specs.Bands.{first_line, band_width}
use Rattle.channel_lines.specs.Spectrum.{group_band}
use Rattle.channel_lines.proofs.lines.read_group_band.Goals as goal

pub returns : goal.returns
unfolding group_band first_line band_width
returns c = rw add-one at c.read_windows.ensures
