-- From the front of the bytes nothing is judged before the frame, which is no longer than they are; and a stream fits where it is put.
-- Assumes nothing.
use Prim.Native.Nat.{◌+◌, ◌-◌, ◌≤◌}
use mathlib.Core.Path.{◌≡◌}
use mathlib.Core.Bool.{true}
use native.Mathlib.Omega.{arith}
use borrow.Author.Rules.{rules}
use lib.ListN.{length, take, drop, length-drop}
use lib.Seq.{length-take-le}
use Rattle.bits.specs.Packed.{bytes_for}
use Rattle.adts.specs.Promise.{header_at, stream_at}
use Rattle.adts_files.proofs.RowLaws.{front-is, frame-fits}
use Rattle.import.proofs.GatheringLaws.{unwrap-room}
use Rattle.import.proofs.gathering.unwrap_at.Goals as goal

pub returns : goal.returns
returns c =
    let a = c.args in
    let r = c.unwrap.ensures.0 in
    let h = header_at a.bytes.now 0 true in
    let short : c.unwrap.result.length ≤ length a.bytes.now = rw (r, front-is a.bytes.now) (frame-fits a.bytes.now _) in
    let rest = take (length a.image.now - a.at) (drop a.at a.image.now) in
    let room : bytes_for c.unwrap.result.reading.bits ≤ length rest =
    unwrap-room h (stream_at a.bytes.now 0 h) _ c.unwrap.result r in
    let part : length (take (length a.image.now - a.at) (drop a.at a.image.now)) ≡ length a.image.now - a.at =
    length-take-le (length a.image.now - a.at) (drop a.at a.image.now) (omega (arith, length-drop a.at a.image.now)) in
    let fits : a.at + bytes_for c.unwrap.result.reading.bits ≤ length a.image.now =
    omega (arith, room, part, c.requires) in
    (short, search rules)
