-- Groups of windows: a grouping bit of 1 puts the next window in the group of the one before.
use Rattle.std.specs.Prelude.{ℕ, zero, suc, ◌/◌, ◌%◌, ◌^◌, List, [], ◌∷◌, Bool, eqb}
use Rattle.bits.specs.Lists.{padded}
use Rattle.bits.specs.Reader.{pick}

-- the windows of each group, k windows more after n in the group at hand; the bits are the last k of a number
unfoldable pub groups_from : ℕ → ℕ → ℕ → List ℕ
groups_from zero bits n = n ∷ []
groups_from (suc k) bits n = pick (eqb (bits / 2 ^ k % 2) 1) (groups_from k bits (suc n)) (n ∷ groups_from k bits 1)

-- the groups of the last k windows, the first of which starts one
unfoldable pub groups_after : ℕ → ℕ → List ℕ
groups_after zero bits = []
groups_after (suc k) bits = groups_from k bits 1

-- the groups of eight short windows, or of one long one
unfoldable pub groups_of : Bool → ℕ → List ℕ
groups_of short bits = pick short (groups_after 8 bits) (1 ∷ [])

-- groups in eight places, 0 where there is none
abbrev pub in_eight : List ℕ → List ℕ
in_eight groups = padded 8 0 groups
