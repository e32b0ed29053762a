-- The number is the version's, computed.
-- Assumes nothing.
use mathlib.Core.Path.{refl}
use Rattle.c_version.specs.Version.{version}
use Rattle.c_version.proofs.oarcradler_version_3_1.Goals as goal

pub returns : goal.returns
unfolding version
returns c = refl
