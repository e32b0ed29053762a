-- The definitions of what fills an announced part, open.
use Rattle.bits.specs.Field.{field}
use Rattle.bits.specs.Places.{here, refuse_at}
use Rattle.bits.specs.Inside.{left_over}
use Rattle.stereo.specs.Extension.{another, part}

unfoldable pub filled : Unit {0}
unfolding field here refuse_at left_over another part
filled = tt
