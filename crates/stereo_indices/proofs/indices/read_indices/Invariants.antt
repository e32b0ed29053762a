-- The indices are listed one by one, and `last` is the one before.
use Prim.Native.Nat.{◌-◌, ◌≤◌}
use mathlib.Core.Path.{◌≡◌}
use lib.ListN.{take, get_or}
use lib.IntN.{pos, nat_abs}
use Rattle.stereo_indices.specs.Kind.{bands}
use Rattle.stereo_indices.specs.Indices.{index}
use Rattle.stereo_indices.proofs.ListingLaws.{Listing}
use Rattle.stereo_indices.proofs.indices.read_indices.Given as goal

abbrev pub invariant-loop-i : goal.invariant-loop-i
invariant-loop-i l = record {
  listing : Listing 34 (pos 0) (bands l.kind l.mode) (index l.kind l.mode l.time l.before) l.s.bytes.now l.at l.s.end l.indices l.place l.i;
  small : nat_abs l.last ≤ 15;
  before : l.last ≡ get_or (take l.i l.indices) (l.i - 1) (pos 0);
}
