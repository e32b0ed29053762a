-- The outputs that are lent have just the length that is asked, so the reader is the one of `channel_in`; `RowLaws` says its row.
-- Assumes nothing.
use mathlib.Core.Path.{◌≡◌, ap, ◌∙◌}
use lib.IntN.{pos}
use lib.ListN.{replicate}
use Rattle.channel.specs.Promise.{Outputs, reading_of, lines_after}
use Rattle.image_outline.specs.Answers.{channel_in}
use Rattle.image_outline.proofs.RowLaws.{row_is}
use Rattle.image_outline.proofs.channel_row.Goals as goal

pub returns : goal.returns
unfolding channel_in
returns c =
    let read = c in
    let books = read in
    let factors = books in
    let lines = factors in
    let a = lines.args in
    let x = channel_in a.index a.part.now in
    let r : read.read_channel-r.result ≡ reading_of x =
    read.read_channel-r.ensures.0 ∙ rw (lines.no_lines-lines.ensures, factors.no_bands-factors.ensures, books.no_bands-books.ensures) in
    let l : read.read_channel-r.new.lines ≡ lines_after x (replicate 1024 (pos 0)) =
    ap (λ (o : Outputs). o.lines) read.read_channel-r.ensures.1
    ∙ rw (lines.no_lines-lines.ensures, factors.no_bands-factors.ensures, books.no_bands-books.ensures) in
    rw (c.wide.ensures.0, c.wide-2.ensures.0, c.count_sounding.ensures, l, r) (row_is x)
