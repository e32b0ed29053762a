-- A size of 4 bits and an escape of 8 are at most 270 bytes, so the sum fits.
use Prim.Native.Nat.{◌<◌, ◌^◌}
use mathlib.Core.Path.{sym}
use native.Mathlib.Omega.{arith}
use Rattle.bits.proofs.Taken.{field_below}
use Rattle.stereo.proofs.ExtensionLaws.{esc-below}
use Rattle.stereo.proofs.extensions.read_extension_sent.Goals as goal

pub overflow_add-bytes : goal.overflow_add-bytes
overflow_add-bytes c =
    let size : c.in_ok-size.size < 2 ^ 4 = field_below 4 _ _ _ _ _ (sym c.in_ok-size.ensures) in
    let esc : c.in_ok-esc.esc < 256 = esc-below _ _ _ _ _ _ (sym c.in_ok-esc.ensures) in
    omega arith

pub read_announced-requires : goal.read_announced-requires
read_announced-requires c =
    let size : c.in_ok-size.size < 2 ^ 4 = field_below 4 _ _ _ _ _ (sym c.in_ok-size.ensures) in
    let esc : c.in_ok-esc.esc < 256 = esc-below _ _ _ _ _ _ (sym c.in_ok-esc.ensures) in
    (c.requires, omega arith)
