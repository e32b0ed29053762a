-- An index of two bits is below 4.
use Prim.Native.Nat.{◌<◌, ◌^◌}
use mathlib.Core.Path.{sym}
use native.Mathlib.Omega.{arith}
use Rattle.bits.proofs.Taken.{field_below}
use Rattle.stereo.proofs.frames.read_frame.Goals as goal

pub envelope_count-envelopes-requires : goal.envelope_count-envelopes-requires
envelope_count-envelopes-requires c =
    let h : c.in_ok-index.index < 2 ^ 2 = field_below 2 _ _ _ _ _ (sym c.in_ok-index.ensures) in
    omega arith
