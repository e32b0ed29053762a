-- A reader with a carried state, over any states and contents; its events, and what each comes to.
use Rattle.std.specs.Prelude.{ℕ, List, [], ◌∷◌, Bool, ◌||◌}
use Rattle.bits.specs.Reader.{Answer, got, refused, pick}
use Rattle.bits.specs.Payload.{Range, is_there, bytes_in}
use Rattle.bits.specs.Calls.{◌or◌, first_refusal}

-- a payload, as a byte range of a buffer; or a report that one is missing
pub data Event : Type 0 where
  payload : Range → Event
  missing : Event

pub record Machine (S C : Type 0) : Type 1 where
  pub fresh : S
  pub sound : S → Bool
  pub in_step : S → Bool
  -- a payload's bytes, read from a state
  pub read : S → List ℕ → Answer C
  pub restart : C → Bool
  -- the state after contents that were read from a state
  pub carried : S → C → S
  -- out of step, and nothing else touched
  pub lost : S → S

-- contents with the bits used; a refusal with its place; or a report that was taken
pub data Outcome (C : Type 0) : Type 0 where
  answered : C → ℕ → Outcome C
  refusal : ℕ → ℕ → Outcome C
  reported : Outcome C

-- an outcome, with the state after it
pub record Turn (S C : Type 0) : Type 0 where
  pub outcome : Outcome C
  pub state : S

module _ {S C : Type 0} (M : Machine S C) where
  -- the state that a payload is read from: out of step, the fresh one
  abbrev pub origin : S → S
  origin st = pick (M.in_step st) st M.fresh

  -- a refusal before any bit, which leaves the state
  abbrev pub untouched : S → ℕ → Turn S C
  untouched st n = record { outcome = refusal n 0; state = st }

  -- a refusal at a bit, which sets the mark and nothing else
  abbrev pub losing : S → ℕ → ℕ → Turn S C
  losing st n place = record { outcome = refusal n place; state = M.lost st }

  abbrev pub accepted : S → C → ℕ → Turn S C
  accepted st c bits = record { outcome = answered c bits; state = M.carried (origin st) c }

  -- contents that were read are answered in step, or where they are a restart; else 35, at the first bit unused
  abbrev pub concluded : S → Answer C → Turn S C
  concluded st (refused n place) = losing st n place
  concluded st (got c bits) = pick (M.in_step st || M.restart c) (accepted st c bits) (losing st 35 bits)

  -- the range and the state are judged before any bit
  abbrev pub turn : S → Event → Turn S C
  turn st (payload p) =
      first_refusal (is_there p or 1 ∷ M.sound st or 4 ∷ []) (untouched st) (concluded st (M.read (origin st) (bytes_in p)))
  turn st missing = first_refusal (M.sound st or 4 ∷ []) (untouched st) (record { outcome = reported; state = M.lost st })

  -- a run: each outcome with the state after it
  abbrev pub run : S → List Event → List (Turn S C)
  run st [] = []
  run st (e ∷ es) = turn st e ∷ run (turn st e).state es

  -- the state after a run
  abbrev pub after : S → List Event → S
  after st [] = st
  after st (e ∷ es) = after (turn st e).state es
