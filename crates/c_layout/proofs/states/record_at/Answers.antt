-- A record has its mode where a row has its flag.
use mathlib.Core.Path.{ap}
use Rattle.c_layout.specs.StateBytes.{record_at}
use Rattle.c_layout.specs.ContentsBytes.{row_at}
use Rattle.c_layout.proofs.BackLaws.{as_record}
use Rattle.c_layout.proofs.states.record_at.Goals as goal

pub returns : goal.returns
unfolding record_at row_at
returns c = ap as_record c.row_at-row.ensures
