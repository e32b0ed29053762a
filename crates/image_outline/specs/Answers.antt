-- What each payload of an image answers, in order: each is read from its own part of the image, even ones as channel streams, odd ones as
-- stereo payloads, each of these from the state that the one before it left. A channel refusal doesn't touch the stereo state.
use Rattle.std.specs.Prelude.{ℕ, zero, suc, ◌%◌, List, Bool, true, eqb, length}
use Rattle.bits.specs.Reader.{Answer, pick}
use Rattle.bits.specs.Payload.{range_in}
use Rattle.channel.specs.Stream.{Stream}
use Rattle.channel.specs.Promise.{channel}
use Rattle.stereo.specs.State.{fresh}
use Rattle.stereo_reader.specs.Reading.{read_from}
use Rattle.stereo.specs.declared.State.{State}
use Rattle.stereo_reader.specs.declared.Reading.{Reading}
use Rattle.image.specs.Image.{bytes_of}

abbrev pub is_even : ℕ → Bool
is_even k = eqb (k % 2) 0

-- a channel stream that fills a part, into outputs that have room
unfoldable pub channel_in : ℕ → List ℕ → Answer Stream
channel_in index part = channel (range_in part 0 (length part)) index true

-- a stereo payload that fills a part, from a state
unfoldable pub stereo_in : State → List ℕ → Reading
stereo_in st part = read_from st (range_in part 0 (length part))

-- the state after the k-th payload, which fills a part, from the state before it
unfoldable pub state_from : State → ℕ → List ℕ → State
state_from st k part = pick (is_even k) st (stereo_in st part).state

-- the state before the k-th payload
unfoldable pub state_before : List ℕ → ℕ → State
state_before s zero = fresh
state_before s (suc k) = state_from (state_before s k) k (bytes_of s k)
