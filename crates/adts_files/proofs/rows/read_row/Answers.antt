-- From the front of the bytes and with outputs that fit, the reader judges nothing before the frame; and what it leaves in lines of 0 are
-- the stream's lines.
-- Assumes nothing.
use Prim.Native.Nat.{◌≤◌}
use mathlib.Core.Path.{◌≡◌, ap, ◌∙◌}
use lib.Dec.{eqb}
use lib.IntN.{pos}
use lib.ListN.{length, replicate}
use Rattle.channel.specs.Promise.{Outputs, reading_of, lines_after}
use Rattle.sounding.specs.Sounding.{sounding}
use Rattle.adts.specs.Frame.{frame_header, frame_stream}
use Rattle.adts.specs.Promise.{framed}
use Rattle.adts_files.proofs.RowLaws.{sounding-after, frame-fits, step_fits, front-is, row_is}
use Rattle.adts_files.proofs.rows.read_row.Goals as goal

pub returns : goal.returns
returns c =
    let bytes = c.args.bytes.now in
    let x = frame_stream bytes (frame_header bytes) in
    let r : c.read_frame-f.result ≡ framed (frame_header bytes) (reading_of x) =
    c.read_frame-f.ensures.0 ∙ rw (c.no_lines-lines.ensures, front-is bytes) in
    let l : c.read_frame-f.new.lines ≡ lines_after x (replicate 1024 (pos 0)) =
    ap (λ (o : Outputs). o.lines) c.read_frame-f.ensures.1 ∙ rw (c.no_lines-lines.ensures, front-is bytes) in
    let sound = c.count_sounding.ensures ∙ ap sounding l ∙ sounding-after x in
    let row = row_is bytes c.read_frame-f.result _ _ _ _ _ r c.wide.ensures
    c.wide-2.ensures c.wide-3.ensures sound c.step_of.ensures in
    let short : c.read_frame-f.result.length ≤ length bytes = rw r (frame-fits bytes (reading_of x)) in
    (row, rw c.step_of.ensures (step_fits (eqb c.read_frame-f.result.reading.number 10) _ _ short))
