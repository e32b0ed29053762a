-- What is known of the indices before i, and those from i on, give whether all are sound.
use mathlib.Core.Bool.{◌&&◌}
use mathlib.Core.Path.{◌≡◌}
use lib.ListN.{drop}
use Rattle.stereo_indices.specs.Record.{sound_from}
use Rattle.stereo_indices.proofs.records.sound_indices.Given as goal

abbrev pub invariant-loop-i : goal.invariant-loop-i
invariant-loop-i l = sound_from l.kind l.mode 0 l.indices ≡ (l.sound && sound_from l.kind l.mode l.i (drop l.i l.indices))
