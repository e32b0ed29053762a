-- What a call answers beside the lent state.
use Rattle.std.specs.Prelude.{ℕ, ◌≡◌}
use Rattle.bits.specs.Payload.{Range}
use Rattle.stereo.specs.declared.State.{State}
use Rattle.stereo_reader.specs.Reading.{read_from, missing}
use Rattle.stereo_reader.specs.declared.Reading.{Reading}
use Rattle.stereo_lent.specs.declared.Answer.{Answer}
use Rattle.stereo_lent.specs.declared.Apart.{Apart}

-- a reading without its state
abbrev pub answer_of : Reading → Answer
answer_of r = record { number = r.number; place = r.place; bits = r.bits; contents = r.contents }

-- a reading, its state apart
abbrev pub apart_of : Reading → Apart
apart_of r = record { state = r.state; answer = answer_of r }

-- what is promised of a payload and of a report: the answer, and the lent state afterwards
abbrev pub LentReadPromise : State → Range → Answer → State → Type 0
LentReadPromise st p r after = (r ≡ answer_of (read_from st p)) × (after ≡ (read_from st p).state)

abbrev pub LentMissingPromise : State → ℕ → State → Type 0
LentMissingPromise st r after = (r ≡ (missing st).number) × (after ≡ (missing st).state)
