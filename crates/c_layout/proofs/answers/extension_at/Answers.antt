-- The fields are the six bytes from place 16 on; the phases stand in the envelopes.
use Rattle.c_layout.specs.ContentsBytes.{extension_at}
use Rattle.c_layout.proofs.answers.extension_at.Goals as goal

pub returns : goal.returns
unfolding extension_at
returns c = rw (c.six_at-six.ensures, c.all_phases_at-phases.ensures)
