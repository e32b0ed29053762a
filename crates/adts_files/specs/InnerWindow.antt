-- For contracts of inner functions only: what a window keeps, and when there is enough in it.
use Rattle.std.specs.Prelude.{ℕ, ◌-◌, ◌≤◌, ◌≡◌, Bool, true, false, List, take, drop}

-- the bytes from start to end of a buffer are the first ones of a window in the buffer afterwards
abbrev pub Kept : ℕ → ℕ → List ℕ → ℕ → ℕ → List ℕ → Type 0
Kept start end old start' end' new =
    (end - start ≤ end' - start') × (take (end - start) (drop start' new) ≡ take (end - start) (drop start old))

-- as many bytes are there as a frame takes at most, where the input has not ended
abbrev pub Enough : Bool → ℕ → Type 0
Enough false there = 8191 ≤ there
Enough true there = Unit {0}
