-- What is promised of a call: its answer, and what the lent outputs hold afterwards.
use Rattle.std.specs.Prelude.{ℕ, ◌≡◌, List, [], ◌∷◌, ◌++◌, Bool, ◌&&◌, leb, ℤ, length, drop, replicate}
use Rattle.bits.specs.Reader.{Answer, got, refused}
use Rattle.bits.specs.Payload.{Range, is_there, bytes_in, whole}
use Rattle.bits.specs.Calls.{Test, ◌or◌, first_refusal}
use Rattle.bits.specs.Sampling.{known_index}
use Rattle.channel_bands.specs.Grouping.{in_eight}
use Rattle.channel_side.specs.Window.{max_sfb, groups}
use Rattle.channel.specs.Stream.{Head, Stream, stream}
use Rattle.channel.specs.declared.Reading.{Reading}

-- the lent outputs
pub record Outputs : Type 0 where
  pub lines : List ℤ
  pub factors : List ℕ
  pub books : List ℕ

-- outputs of so many places have room for the lines, scale factors and books of a stream
abbrev pub outputs_fit : ℕ → ℕ → ℕ → Bool
outputs_fit lines factors books = leb 1024 lines && leb 120 factors && leb 120 books

abbrev pub have_room : Outputs → Bool
have_room o = outputs_fit (length o.lines) (length o.factors) (length o.books)

-- what a call is given: where the payload stands, the sampling index, and the lent outputs
pub record Call : Type 0 where
  pub payload : Range
  pub index : ℕ
  pub outputs : Outputs

-- what is judged before any bit: the range, whether the outputs have room, and the index
abbrev pub channel_tests : Bool → Bool → ℕ → List Test
channel_tests there room index = there or 1 ∷ room or 2 ∷ known_index index or 3 ∷ []

-- the stream in a range, or what refuses it, where the outputs have room or have not
unfoldable pub channel : Range → ℕ → Bool → Answer Stream
channel p index room = first_refusal (channel_tests (is_there p) room index) (λ n. refused n 0) (whole (stream index) (bytes_in p))

-- the answer to a refusal: every number but its own and its place is 0
abbrev pub refusal : ℕ → ℕ → Reading
refusal n place =
    record {
      number = n;
      place = place;
      gain = 0;
      sequence = 0;
      shape = 0;
      max_sfb = 0;
      group_count = 0;
      groups = replicate 8 0;
      bits = 0;
    }

-- the answer to a stream with a head, and the bits that it used
abbrev pub accepted : Head → ℕ → Reading
accepted h bits =
    record {
      number = 0;
      place = 0;
      gain = h.gain;
      sequence = h.window.sequence;
      shape = h.window.shape;
      max_sfb = max_sfb h.window;
      group_count = length (groups h.window);
      groups = in_eight (groups h.window);
      bits = bits;
    }

-- the answer of a call
abbrev pub reading_of : Answer Stream → Reading
reading_of (got x next) = accepted x.head next
reading_of (refused n place) = refusal n place

-- the lent outputs after a call: 1,024 lines, 120 scale factors and 120 books are written, or none
abbrev pub lines_after : Answer Stream → List ℤ → List ℤ
lines_after (got x next) old = x.coded.lines ++ drop 1024 old
lines_after (refused n place) old = old

abbrev pub factors_after : Answer Stream → List ℕ → List ℕ
factors_after (got x next) old = x.factors ++ drop 120 old
factors_after (refused n place) old = old

abbrev pub books_after : Answer Stream → List ℕ → List ℕ
books_after (got x next) old = x.books ++ drop 120 old
books_after (refused n place) old = old

abbrev pub outputs_after : Answer Stream → Outputs → Outputs
outputs_after x old =
    record { lines = lines_after x old.lines; factors = factors_after x old.factors; books = books_after x old.books }

-- everything that a call gives: the answer, and the outputs afterwards
abbrev pub ReadChannelPromise : Call → Reading → Outputs → Type 0
ReadChannelPromise c r after =
    let x = channel c.payload c.index (have_room c.outputs) in
    (r ≡ reading_of x) × (after ≡ outputs_after x c.outputs)
