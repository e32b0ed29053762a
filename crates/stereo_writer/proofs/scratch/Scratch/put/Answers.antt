-- The low bits of the number are put, as one piece.
use Rattle.bits.specs.Packed.{put_all}
use native.Mathlib.Omega.{arith}
use Rattle.stereo_writer.proofs.scratch.Scratch.put.Goals as goal

pub returns : goal.returns
unfolding put_all
returns c = record { holds = c.put_bits.ensures; ends = omega arith; short = omega arith }
