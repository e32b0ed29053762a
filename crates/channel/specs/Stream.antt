-- A channel stream.
use Rattle.std.specs.Prelude.{ℕ, List, ℤ}
use Rattle.bits.specs.Reader.{Reader, give, ◌>>=◌}
use Rattle.bits.specs.Field.{field, zero_bit}
use Rattle.channel_bands.specs.Bands.{bands}
use Rattle.channel_lines.specs.Spectrum.{spectrum}
use Rattle.channel_side.specs.declared.window.Window.{Window}
use Rattle.channel_side.specs.Window.{is_short, max_sfb, groups, window}
use Rattle.channel_side.specs.Sections.{sections}
use Rattle.channel_side.specs.Factors.{scale_factors}
use Rattle.channel_side.specs.declared.pulses.Pulses.{Pulses}
use Rattle.channel_side.specs.Pulses.{pulses, apply_pulses}
pub use Rattle.channel.specs.declared.stream.Head.{Head}

-- the pulses, and the lines before and after them
pub record Coded : Type 0 where
  pub pulses : Pulses
  pub before : List ℤ
  pub lines : List ℤ

-- books and scale factors stand at group times max_sfb plus band
pub record Stream : Type 0 where
  pub head : Head
  pub books : List ℕ
  pub factors : List ℕ
  pub coded : Coded

-- global_gain; then the window information
unfoldable pub head_of : ℕ → Reader Head
head_of index = do
  gain ← field 8
  w ← window index
  give (record { gain = gain; window = w })

-- no TNS and no gain control, or 20
unfoldable pub no_tools : Reader ℕ
no_tools = do
  tns ← zero_bit 20
  zero_bit 20

-- the two flags; then the spectrum
unfoldable pub unpulsed : ℕ → Window → List ℕ → Reader (List ℤ)
unpulsed index w books = do
  flags ← no_tools
  spectrum (bands index (is_short w)) (max_sfb w) books (groups w)

-- pulses; flags and spectrum; then the pulses are applied
unfoldable pub coded_of : ℕ → Window → List ℕ → Reader Coded
coded_of index w books = do
  ps ← pulses index (is_short w)
  before ← unpulsed index w books
  lines ← apply_pulses ps before
  give (record { pulses = ps; before = before; lines = lines })

-- the rest of a stream, after its head and its books
unfoldable pub stream_with : ℕ → Head → List ℕ → Reader Stream
stream_with index head books = do
  factors ← scale_factors head.gain head.window books
  coded ← coded_of index head.window books
  give (record { head = head; books = books; factors = factors; coded = coded })

-- the rest of a stream, after its head
unfoldable pub stream_after : ℕ → Head → Reader Stream
stream_after index head = sections head.window >>= stream_with index head

-- a stream of a sampling index, 3, 4, 6 or 7
unfoldable pub stream : ℕ → Reader Stream
stream index = head_of index >>= stream_after index
