-- What follows a start; how short an accepted stream is.
-- Assumes nothing.
use Prim.Native.Nat.{ℕ, ◌*◌, ◌-◌, ◌≤◌}
use mathlib.Core.Path.{◌≡◌, sym, ◌∙◌}
use mathlib.Core.Bool.{true}
use native.Mathlib.Omega.{arith}
use mathlib.Core.List.{List}
use lib.ListN.{length, take, drop, length-drop}
use lib.Seq.{take_all}
use Rattle.bits.specs.Reader.{got}
use Rattle.bits.specs.Payload.{whole}
use Rattle.bits.proofs.PayloadLaws.{whole-got}
use Rattle.channel.specs.Stream.{Stream, stream}
use Rattle.channel.proofs.StreamNear.{stream-near}
use Rattle.bits.specs.Payload.{in_buffer}
use Rattle.bits.specs.Calls.{first_number}
use Rattle.bits.proofs.CallLaws.{all-passed, range-in}
use Rattle.channel.specs.Promise.{channel_tests}
use Rattle.channel.proofs.PromiseLaws.{outputs-room, channel-not, channel-is}

-- what follows a byte of a file, as the code cuts it
pub rest-is : (file : List ℕ) (start : ℕ) → take (length file - start) (drop start file) ≡ drop start file
rest-is file start = take_all (length file - start) (drop start file) (omega (arith, length-drop start file))

-- a stream that is accepted is short: its frame's length fits 13 bits
pub wrapped_short : (index : ℕ) (s : List ℕ) (x : Stream) (bits : ℕ) → whole (stream index) s ≡ got x bits → bits ≤ 38000
wrapped_short index s x bits e = omega (arith, (stream-near index).law s 0 (8 * length s) bits x (whole-got (stream index) s bits x e).0)

-- past the judgement the range lies in the buffer
pub in-range : (start end size index n : ℕ) → n ≡ first_number (channel_tests (in_buffer start end size) true index) → n ≡ 0
    → (start ≤ end) × (end ≤ size)
in-range start end size index n e z =
    range-in _ _ _ (all-passed (channel_tests (in_buffer start end size) true index) tt (sym e ∙ z)).0

-- what the code cites
pub ruleset rest_laws = (rest-is)

pub ruleset outputs_laws = (rest-is, outputs-room)

pub ruleset short_laws = (wrapped_short)

pub ruleset range_laws = (in-range, channel-not, channel-is)
