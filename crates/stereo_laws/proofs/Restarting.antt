-- What the contents of a restart say.
use Prim.Native.Nat.{◌≤◌}
use mathlib.Core.Path.{◌≡◌}
use mathlib.Core.Bool.{true}
use lib.Dec.{eqb}
use Rattle.stereo.specs.Restart.{across, phases_across}
use Rattle.stereo.specs.declared.Contents.{Contents}

pub record Restart (c : Contents) : Type 0 where
  pub there : eqb c.header.there 1 ≡ true
  pub iid-on : eqb c.header.iid 1 ≡ true
  pub icc-on : eqb c.header.icc 1 ≡ true
  pub some : 1 ≤ c.frame.envelopes
  pub iid : across c.iid ≡ true
  pub icc : across c.icc ≡ true
  pub phases : phases_across c.extension.part.body ≡ true
