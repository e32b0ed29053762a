-- The numbers that come back: 0, or one of the table of refusals.
use Rattle.std.specs.Prelude.{ℕ, List, [], ◌∷◌, Bool}
use Rattle.bits.specs.Lists.{one_of}

-- a channel stream's own: of its bits, and of what is left after it
abbrev pub stream_refusals : List ℕ
stream_refusals = 10 ∷ 12 ∷ 13 ∷ 20 ∷ 21 ∷ 22 ∷ 23 ∷ 24 ∷ 25 ∷ 26 ∷ []

-- the table
abbrev pub refusals : List ℕ
refusals =
    1 ∷ 2 ∷ 3 ∷ 4 ∷ 5 ∷ 10 ∷ 11 ∷ 12 ∷ 13 ∷ 20 ∷ 21 ∷ 22 ∷ 23 ∷ 24 ∷ 25 ∷ 26 ∷ 31 ∷ 32 ∷ 33 ∷ 34 ∷ 35 ∷ 40 ∷ 50 ∷ 51 ∷ 52 ∷ 53 ∷ []

-- a number of the table, which 0 is not
abbrev pub is_refusal : ℕ → Bool
is_refusal = one_of refusals

-- a number that a call gives: 0, or a refusal's
abbrev pub is_answered : ℕ → Bool
is_answered = one_of (0 ∷ refusals)
