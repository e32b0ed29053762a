-- What the stereo reader answers: a payload in step or out of step, and a payload reported missing.
use Rattle.std.specs.Prelude.{ℕ, ◌≡◌, List, [], ◌∷◌, ◌||◌}
use Rattle.bits.specs.Reader.{Answer, got, refused, pick}
use Rattle.bits.specs.Payload.{Range, is_there, bytes_in, whole}
use Rattle.bits.specs.Calls.{◌or◌, first_refusal}
use Rattle.stereo.specs.State.{fresh, sound, lost}
use Rattle.stereo.specs.Payload.{no_contents, payload}
use Rattle.stereo.specs.Carried.{carried}
use Rattle.stereo.specs.declared.State.{State}
use Rattle.stereo.specs.declared.Contents.{Contents}
use Rattle.stereo_reader.specs.declared.Reading.{Reading}
use Rattle.stereo_reader.specs.declared.Report.{Report}
use Rattle.stereo.specs.Restart.{restart}

-- the state that a payload is read from: out of step the fresh one
abbrev pub from : State → State
from st = pick st.instep st fresh

-- a refusal: every number but its own and its place is 0
abbrev pub refusal : ℕ → ℕ → State → Reading
refusal n place st = record { number = n; place = place; bits = 0; contents = no_contents; state = st }

-- contents that are accepted, with the bits that they used and the state after them
abbrev pub acceptance : State → Contents → ℕ → Reading
acceptance st c bits = record { number = 0; place = 0; bits = bits; contents = c; state = carried (from st) c }

-- what was read is accepted in step, or where it is a restart; else 35, at the first bit unused
unfoldable pub taken : State → Contents → ℕ → Reading
taken st c bits = pick (st.instep || restart c) (acceptance st c bits) (refusal 35 bits (lost st))

-- a refusal from the payload's bits on touches only the mark
abbrev pub reading_of : State → Answer Contents → Reading
reading_of st (got c bits) = taken st c bits
reading_of st (refused n place) = refusal n place (lost st)

-- a payload's bytes
unfoldable pub read_bytes : State → List ℕ → Reading
read_bytes st bytes = reading_of st (whole (payload (from st)) bytes)

-- a range of a buffer: the range and the state are judged before any bit
unfoldable pub read_from : State → Range → Reading
read_from st p = first_refusal (is_there p or 1 ∷ sound st or 4 ∷ []) (λ n. refusal n 0 st) (read_bytes st (bytes_in p))

-- a payload reported missing: refused only with 4
unfoldable pub missing : State → Report
missing st = first_refusal (sound st or 4 ∷ []) (λ n. record { number = n; state = st }) (record { number = 0; state = lost st })

-- what is promised of a payload in a range of a buffer, and of a report
abbrev pub ReadPromise : State → Range → Reading → Type 0
ReadPromise st p r = r ≡ read_from st p

abbrev pub MissingPromise : State → Report → Type 0
MissingPromise st r = r ≡ missing st
