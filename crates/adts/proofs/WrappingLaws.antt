-- The frame that wraps a stream: how long its spelling is, and that its parts put one after another are the whole.
-- Assumes nothing.
use Prim.Native.Nat.{ℕ, ◌+◌}
use mathlib.Core.Path.{◌≡◌, refl}
use mathlib.Core.List.{List, [], ◌∷◌, ◌++◌}
use native.Mathlib.Omega.{arith}
use Rattle.bits.specs.Pieces.{piece, total}
use Rattle.bits.specs.Packed.{put_all}
use Rattle.bits.proofs.Spelt.{total-append}
use Rattle.adts.specs.Cut.{each_bit}
use Rattle.adts.specs.Wrapping.{spell_kind, spell_voice, spell_variable_half, spell_block}
use Rattle.bits.proofs.PutLaws.{put-all-more}
use Rattle.adts.proofs.CutLaws.{each-total, packed-over}

block-total : (bytes : List ℕ) (n : ℕ) → total (spell_block bytes n) ≡ 3 + 4 + n + 3
unfolding spell_block
block-total bytes n = rw (total-append (each_bit bytes 0 n) (piece 7 3 ∷ []), each-total bytes 0 n) (omega arith)

-- the whole frame's bits
pub frame-total : (index size : ℕ) (bytes : List ℕ) (n : ℕ)
    → total (spell_kind ++ spell_voice index ++ spell_variable_half size ++ spell_block bytes n) ≡ 56 + 3 + 4 + n + 3
unfolding spell_kind spell_voice spell_variable_half
frame-total index size bytes n = rw (block-total bytes n) (omega arith)

-- its parts, put one after another
pub parts-put : (index size : ℕ) (bytes : List ℕ) (n : ℕ) (out : List ℕ)
    → put_all (put_all (put_all (put_all out 0 spell_kind) 18 (spell_voice index)) 28 (spell_variable_half size)) 56 (spell_block bytes n)
    ≡ put_all out 0 (spell_kind ++ spell_voice index ++ spell_variable_half size ++ spell_block bytes n)
unfolding put_all spell_kind spell_voice spell_variable_half
parts-put index size bytes n out = refl

-- what the code cites
pub ruleset run_laws = (each-total, put-all-more)

pub ruleset frame_laws = (frame-total, parts-put, packed-over)
