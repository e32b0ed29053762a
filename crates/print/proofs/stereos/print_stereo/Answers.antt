-- The state that comes back is the reading's.
-- Assumes nothing.
use mathlib.Core.Path.{ap}
use Rattle.stereo_reader.specs.declared.Reading.{Reading}
use Rattle.image_outline.specs.Answers.{stereo_in}
use Rattle.print.proofs.stereos.print_stereo.Goals as goal

pub returns : goal.returns
unfolding stereo_in
returns g c = ap (λ (r : Reading). r.state) c.read-r.ensures
