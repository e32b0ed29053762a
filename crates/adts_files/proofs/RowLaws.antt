-- What is listed of a frame is what its reader answers: lines that were not written are 0, and a frame is no longer than what is there.
-- Assumes nothing.
use Prim.Native.Nat.{ℕ, ◌≤◌}
use mathlib.Core.Path.{◌≡◌, refl}
use mathlib.Core.Bool.{Bool, true, false, ◌&&◌}
use mathlib.Core.List.{List, append-nil}
use native.Mathlib.Omega.{arith}
use lib.Dec.{leb}
use lib.IntN.{pos}
use lib.ListN.{length, replicate}
use borrow.Author.Tests.{leb-true, le-leb}
use Rattle.bits.specs.Reader.{Answer, got, refused, pick}
use Rattle.channel.specs.Stream.{Stream}
use Rattle.channel.specs.Promise.{reading_of, lines_after}
use Rattle.channel.specs.declared.Reading.{Reading}
use Rattle.sounding.specs.Sounding.{sounding}
use Rattle.sounding.proofs.SoundingLaws.{sounding-zeros}
use Rattle.adts.specs.Header.{Header}
use Rattle.adts.specs.Frame.{fitting, length_judged, whole_header, frame_header, frame_stream}
use Rattle.adts.specs.Promise.{framed, header_at}
use Rattle.adts.specs.declared.Framed.{Framed}
use Rattle.adts_files.specs.InnerRows.{sounding_in, step_of, row_of}
use Rattle.adts_files.specs.declared.rows.Row.{Row}

-- the lines of a stream that is accepted, over lines of 0; or these as they were
pub sounding-after : (x : Answer Stream) → sounding (lines_after x (replicate 1024 (pos 0))) ≡ sounding_in x
sounding-after (got x bits) = rw (append-nil x.coded.lines)
sounding-after (refused n place) = sounding-zeros 1024

-- a length that is judged is no more than there are
judged-fits : (there : ℕ) (a : Answer Header) (r : Reading) → (framed (length_judged there a) r).length ≤ there
unfolding fitting
judged-fits there (refused n place) r = omega arith
judged-fits there (got h next) r = go (leb 7 h.length) (leb h.length there) refl
  where
    go : (a b : Bool) → leb h.length there ≡ b → (framed (pick (a && b) (got h 56) (refused 52 0)) r).length ≤ there
    go true true e = leb-true _ _ e
    go true false e = omega arith
    go false b e = omega arith

pub frame-fits : (bytes : List ℕ) (r : Reading) → (framed (frame_header bytes) r).length ≤ length bytes
unfolding frame_header
frame-fits bytes r = judged-fits (length bytes) (whole_header bytes 0 _) r

-- no step is longer than the frame
pub step_fits : (b : Bool) (n there : ℕ) → n ≤ there → pick b 0 n ≤ there
step_fits true n there h = omega arith
step_fits false n there h = h

-- from the front of the bytes nothing is judged before the frame
pub front-is : (bytes : List ℕ) → header_at bytes 0 true ≡ frame_header bytes
unfolding header_at
front-is bytes = rw (le-leb 0 (length bytes) (omega arith))

-- the row, number by number
pub row_is : (bytes : List ℕ) (f : Framed) (number index gain lines step : ℕ)
    → f ≡ framed (frame_header bytes) (reading_of (frame_stream bytes (frame_header bytes))) → number ≡ f.reading.number → index ≡ f.index
    → gain ≡ f.reading.gain → lines ≡ sounding_in (frame_stream bytes (frame_header bytes)) → step ≡ step_of f
    → ◌≡◌ {A = Row}
    (record {
      number = number;
      place = f.reading.place;
      length = f.length;
      index = index;
      gain = gain;
      lines = lines;
      bits = f.reading.bits;
      step = step;
    })
    (row_of bytes)
unfolding row_of
row_is bytes f number index gain lines step e n i g l s = rw (n, i, g, l, s, e)
