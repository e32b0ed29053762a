-- The borders are listed one by one.
use Rattle.bits.specs.Field.{field}
use Rattle.stereo_indices.proofs.ListingLaws.{Listing}
use Rattle.stereo.proofs.frames.read_borders_of.Given as goal

abbrev pub invariant-loop-k : goal.invariant-loop-k
invariant-loop-k l = Listing 4 0 l.n (λ bs. field 5) l.s.bytes.now l.at l.s.end l.borders l.place l.k
