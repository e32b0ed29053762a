-- What can be written: reading its own spelling gives it back.
use Rattle.std.specs.Prelude.{Bool, false, List}
use Rattle.bits.specs.Reader.{Answer, got, refused, Reader}
use Rattle.bits.specs.Pieces.{Piece, total}
use Rattle.bits.specs.Packed.{packed}

-- an answer is this value
abbrev pub matches : {A : Type 0} → (A → A → Bool) → Answer A → A → Bool
matches same (got b next) a = same b a
matches same (refused n place) a = false

-- by a reader, a spelling, and a test of sameness
unfoldable pub writable : {A : Type 0} → (A → A → Bool) → Reader A → (A → List Piece) → A → Bool
writable same r w a = matches same (r (packed (w a)) 0 (total (w a))) a
