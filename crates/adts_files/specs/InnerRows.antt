-- For contracts of inner functions only: what is listed of the frame at the front of some bytes.
use Rattle.std.specs.Prelude.{ℕ, List, eqb}
use Rattle.bits.specs.Reader.{Answer, got, refused, pick}
use Rattle.channel.specs.Stream.{Stream}
use Rattle.channel.specs.Promise.{reading_of}
use Rattle.sounding.specs.Sounding.{sounding}
use Rattle.adts.specs.Frame.{frame_header, frame_stream}
use Rattle.adts.specs.Promise.{framed}
use Rattle.adts.specs.declared.Framed.{Framed}
use Rattle.adts_files.specs.declared.rows.Row.{Row}

-- how many lines of a stream sound
abbrev pub sounding_in : Answer Stream → ℕ
sounding_in (got x bits) = sounding x.coded.lines
sounding_in (refused n place) = 0

-- how far it is to the next frame, or 0 where none is known: the header is refused, or the stream is cut off (10)
abbrev pub step_of : Framed → ℕ
step_of f = pick (eqb f.reading.number 10) 0 f.length

abbrev pub row_in : Framed → ℕ → Row
row_in f lines =
    record {
      number = f.reading.number;
      place = f.reading.place;
      length = f.length;
      index = f.index;
      gain = f.reading.gain;
      lines = lines;
      bits = f.reading.bits;
      step = step_of f;
    }

-- what is listed of the frame at the front of some bytes
unfoldable pub row_of : List ℕ → Row
row_of bytes =
    let x = frame_stream bytes (frame_header bytes) in
    row_in (framed (frame_header bytes) (reading_of x)) (sounding_in x)
