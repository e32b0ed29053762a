-- The laws of the whole stream: no bit outside the range counts, and no cut goes unseen.
-- Assumes nothing.
use Prim.Native.Nat.{ℕ, ◌*◌, ◌<◌}
use mathlib.Core.Path.{◌≡◌}
use mathlib.Core.List.{List}
use mathlib.Core.Bool.{Bool, true}
use lib.ListN.{take}
use Rattle.bits.specs.Reader.{got, refused}
use Rattle.bits.specs.Payload.{Range, is_there, bytes_in, whole}
use Rattle.bits.proofs.PayloadLaws.{whole-cut}
use Rattle.channel.specs.Stream.{Stream, stream}
use Rattle.channel.specs.Promise.{channel}
use Rattle.channel.proofs.StreamLawful.{stream-lawful}

-- ranges of any two buffers that hold the same bytes give the same answer
pub only_the_range : (p q : Range) (index : ℕ) (room : Bool) → is_there p ≡ true → is_there q ≡ true → bytes_in p ≡ bytes_in q
    → channel p index room ≡ channel q index room
unfolding channel
only_the_range p q index room a b e = rw (a, b, e)

-- a payload that is cut at a byte, so that fewer bits are there than it used, is refused with 10
pub cut-is_10 : (index : ℕ) (bytes : List ℕ) (next : ℕ) (x : Stream) (k : ℕ) → whole (stream index) bytes ≡ got x next → 8 * k < next
    → (place : ℕ) × (whole (stream index) (take k bytes) ≡ refused 10 place)
cut-is_10 index = whole-cut (stream index) (stream-lawful index)
