-- One envelope more.
-- Assumes nothing.
use Prim.Native.Nat.{ℕ, ◌+◌, ◌<◌}
use mathlib.Core.Path.{◌≡◌}
use mathlib.Core.List.{List, ◌++◌}
use native.Mathlib.Numerals.{add-one}
use lib.ListN.{length, get_or}
use Rattle.stereo_indices.specs.Rows.{no_row}
use Rattle.stereo_indices.specs.declared.Row.{Row}
use Rattle.stereo.specs.Extension.{no_phases}
use Rattle.stereo.specs.declared.Phases.{Phases}
use Rattle.stereo.proofs.TurnLaws.{get_d_there}
use Rattle.c_layout.specs.ContentsBytes.{envelope_bytes, envelopes_bytes}

pub envelopes-more : (iid icc : List Row) (phases : List Phases) (e : ℕ) (a b : Row) (p : Phases)
    → e < length iid → e < length icc → e < length phases
    → envelopes_bytes iid icc phases e ++ envelope_bytes (get_or iid e a) (get_or icc e b) (get_or phases e p)
    ≡ envelopes_bytes iid icc phases (e + 1)
unfolding envelopes_bytes
envelopes-more iid icc phases e a b p h g k =
    rw (add-one, get_d_there iid e a no_row h, get_d_there icc e b no_row g, get_d_there phases e p no_phases k)
