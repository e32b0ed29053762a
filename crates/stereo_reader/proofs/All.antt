-- All definitions of the stereo reader, open: a theorem that computes says `unfolding all`.
use Rattle.stereo.proofs.All as payloads
use Rattle.stereo_reader.specs.Reading.{taken, read_bytes, read_from, missing}

unfoldable pub all : Unit {0}
unfolding payloads.all taken read_bytes read_from missing
all = tt
