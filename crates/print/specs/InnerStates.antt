-- For contracts of inner functions only: the stereo state that goes along as payloads are printed, in full the image's own; else none is
-- read, and it stays the fresh one.
use Rattle.std.specs.Prelude.{ℕ, List, Bool, true, false}
use Rattle.stereo.specs.State.{fresh}
use Rattle.stereo.specs.declared.State.{State}
use Rattle.image_outline.specs.Answers.{state_from, state_before}

-- the state that the k-th payload is printed from
abbrev pub printed_from : Bool → List ℕ → ℕ → State
printed_from true s k = state_before s k
printed_from false s k = fresh

-- the state after the k-th payload, which fills a part, from the state before it
abbrev pub printed_after : Bool → State → ℕ → List ℕ → State
printed_after true st k part = state_from st k part
printed_after false st k part = st
