-- Each field is its byte, in the layout's order.
use Rattle.c_layout.proofs.answers.header_bytes.Goals as goal

pub returns : goal.returns
returns c = rw (
  c.byte_of.ensures,
  c.byte_of-2.ensures,
  c.byte_of-3.ensures,
  c.byte_of-4.ensures,
  c.byte_of-5.ensures,
  c.byte_of-6.ensures,
)
