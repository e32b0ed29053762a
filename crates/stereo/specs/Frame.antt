-- The frame: its class, the envelopes and their borders.
use Rattle.std.specs.Prelude.{ℕ, ◌+◌, List, eqb, replicate}
use Rattle.bits.specs.Reader.{Reader, give, pick, ◌>>=◌}
use Rattle.bits.specs.Field.{field}
use Rattle.bits.specs.Loop.{listed}
use Rattle.bits.specs.Lists.{padded}
use Rattle.stereo.specs.declared.Frame.{Frame}

-- by class and index: 0, 1, 2 or 4 envelopes; with variable borders 1, 2, 3 or 4
unfoldable pub envelope_count : ℕ → ℕ → ℕ
envelope_count class i = pick (eqb class 1) (i + 1) (pick (eqb i 3) 4 i)

unfoldable pub no_borders : List ℕ
no_borders = replicate 4 0

-- one of 5 bits for each of n envelopes, returned as read
unfoldable pub borders_of : ℕ → Reader (List ℕ)
borders_of n = do
  bs ← listed n (λ bs. field 5)
  give (padded 4 0 bs)

-- borders are sent where they are variable
unfoldable pub borders : ℕ → ℕ → Reader (List ℕ)
borders class n = pick (eqb class 1) (borders_of n) (give no_borders)

unfoldable pub no_frame : Frame
no_frame = record { class = 0; envelopes = 0; borders = no_borders }

unfoldable pub frame : Reader Frame
frame = do
  class ← field 1
  i ← field 2
  bs ← borders class (envelope_count class i)
  give (record { class = class; envelopes = envelope_count class i; borders = bs })
