-- A stream that was put somewhere fits there.
-- Assumes nothing.
use Prim.Native.Nat.{ℕ, ◌≤◌}
use mathlib.Core.Path.{◌≡◌, refl}
use mathlib.Core.Bool.{Bool, true, false}
use native.Mathlib.Omega.{arith}
use lib.Dec.{leb}
use borrow.Author.Tests.{leb-true}
use Rattle.bits.specs.Packed.{bytes_for}
use Rattle.bits.specs.Reader.{Answer, got, refused, pick}
use Rattle.channel.specs.Stream.{Stream}
use Rattle.channel.specs.Promise.{reading_of}
use Rattle.adts.specs.Header.{Header}
use Rattle.adts.specs.Promise.{framed, fitted}
use Rattle.adts.specs.declared.Framed.{Framed}

fitted-room : (x : Answer Stream) (room : ℕ) → bytes_for (reading_of (fitted bytes_for room x)).bits ≤ room
fitted-room (refused n place) room = omega arith
fitted-room (got x bits) room = go (leb (bytes_for bits) room) refl
  where
    go : (b : Bool) → leb (bytes_for bits) room ≡ b → bytes_for (reading_of (pick b (got x bits) (refused 2 0))).bits ≤ room
    go true f = leb-true _ _ f
    go false f = omega arith

-- whatever the header
pub unwrap-room : (h : Answer Header) (x : Answer Stream) (room : ℕ) (f : Framed) → f ≡ framed h (reading_of (fitted bytes_for room x))
    → bytes_for f.reading.bits ≤ room
unwrap-room (got h next) x room f e = rw e (fitted-room x room)
unwrap-room (refused n place) x room f e = rw e (fitted-room x room)
