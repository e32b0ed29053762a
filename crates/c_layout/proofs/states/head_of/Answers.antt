-- Each flag and mode of the head is its byte, in the order of the layout.
use Rattle.c_layout.specs.StateBytes.{state_head}
use Rattle.c_layout.proofs.states.head_of.Goals as goal

pub returns : goal.returns
unfolding state_head
returns c = rw (
  c.flag_byte.ensures,
  c.flag_byte-2.ensures,
  c.flag_byte-3.ensures,
  c.byte_of.ensures,
  c.byte_of-2.ensures,
  c.flag_byte-4.ensures,
)
