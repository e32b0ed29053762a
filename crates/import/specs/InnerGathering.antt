-- For contracts of inner functions only: what was gathered fits an image.
use Rattle.std.specs.Prelude.{ℕ, ◌+◌, ◌*◌, ◌≤◌, ◌≡◌, List, length}
use Rattle.import.specs.declared.gathering.Gathered.{Gathered}
use Rattle.import.specs.declared.gathering.Taken.{Taken}

-- at most 512 streams, each of a frame of at most 65,536 bytes; they fill an image of at most 65,535 bytes, 6 of them and 4 a stream its
-- header
abbrev pub FitsImage : Gathered → Type 0
FitsImage g = (g.count ≤ 512) × (g.byte ≤ 65536 * g.count) × (g.size + 4 * g.count ≤ 65529)

-- a frame at the front of some bytes was taken after what was gathered: one stream more, of a frame that is no longer than the bytes
abbrev pub TakenFrom : Gathered → List ℕ → Taken → Type 0
TakenFrom g bytes taken =
    FitsImage taken.gathered × (taken.length ≤ length bytes) × (taken.gathered.count ≡ g.count + 1)
