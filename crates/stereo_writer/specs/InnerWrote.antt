-- For contracts of inner functions only: what a part of the writer does to the scratch array: pieces are put at its place, which moves
-- past them, and there are not too many.
use Rattle.std.specs.Prelude.{ℕ, ◌+◌, ◌≤◌, ◌≡◌, List}
use Rattle.bits.specs.Pieces.{Piece, total}
use Rattle.bits.specs.Packed.{put_all}
use Rattle.stereo_writer.specs.declared.scratch.Scratch.{Scratch}

-- from the scratch array before to the one after
pub record Wrote (most : ℕ) (before : Scratch) (ps : List Piece) (after : Scratch) : Type 0 where
  pub holds : after.bytes ≡ put_all before.bytes before.at ps
  pub ends : after.at ≡ before.at + total ps
  pub short : total ps ≤ most

-- in the 1,536 bytes there is room for so many bits more
abbrev pub Room : ℕ → Scratch → Type 0
Room most w = w.at + most ≤ 12288
