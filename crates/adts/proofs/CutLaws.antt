-- Bits that are put one by one: what stands in the bytes afterwards, and that the bits alone settle what is cut out.
-- Assumes nothing.
use Prim.Native.Nat.{ℕ, zero, suc, ◌+◌, ◌*◌, ◌≤◌}
use mathlib.Core.Path.{◌≡◌, refl, sym, ◌∙◌}
use mathlib.Core.List.{List, [], ◌∷◌, ◌++◌}
use native.Mathlib.Omega.{arith}
use native.Mathlib.Numerals.{add-one}
use lib.ListN.{length, drop, replicate, length-replicate}
use Rattle.bits.specs.Bits.{bit_at, bits_from}
use Rattle.bits.specs.Bytes.{over}
use Rattle.bits.specs.Pieces.{Piece, piece, total}
use Rattle.bits.specs.Packed.{put, put_all, bytes_for, packed}
use Rattle.bits.proofs.OverLaws.{over-front}
use Rattle.bits.proofs.Spelt.{total-append}
use Rattle.bits.proofs.PutLaws.{put-all-length, put-all-append, put-all-more}
use Rattle.adts.specs.Cut.{each_bit}

-- n bits take n bits
pub each-total : (s : List ℕ) (at n : ℕ) → total (each_bit s at n) ≡ n
unfolding each_bit
each-total s at zero = refl
each-total s at (suc n) = rw (total-append (each_bit s at n) (piece (bit_at s (at + n)) 1 ∷ []), each-total s at n) (omega arith)

-- no bit
pub each_none : (s out : List ℕ) (place from : ℕ) → put_all out place (each_bit s from 0) ≡ out
unfolding each_bit put_all
each_none s out place from = refl

-- one bit more
pub each_more : (s out : List ℕ) (place from i : ℕ)
    → put (put_all out place (each_bit s from i)) (place + i) (bits_from s (from + i) 1) 1 ≡ put_all out place (each_bit s from (i + 1))
unfolding each_bit bits_from put_all
each_more s out place from i =
    let last = piece (bit_at s (from + i)) 1 ∷ [] in
    let here : from + i + 0 ≡ from + i = omega arith in
    let bit : 0 * 2 + bit_at s (from + i) ≡ bit_at s (from + i) = omega arith in
    rw (add-one i, put-all-more out place (each_bit s from i) last, each-total s from i, here, bit)

-- pieces put over zeros at the front of a buffer
pub packed-over : (ps : List Piece) (old : List ℕ) (n : ℕ) → n ≡ bytes_for (total ps) → n ≤ length old
    → put_all (replicate n 0 ++ drop n old) 0 ps ≡ over old 0 (packed ps)
unfolding packed
packed-over ps old n e h =
    let zeros = length-replicate {A = ℕ} n 0 in
    let long = put-all-length (replicate n 0) 0 ps in
    let front = over-front old (put_all (replicate n 0) 0 ps) n (long ∙ zeros) in
    rw (← e) (put-all-append (replicate n 0) (drop n old) 0 ps (omega arith) ∙ sym front)

-- what the code cites
pub ruleset run_laws = (each_none, each_more, put-all-length)

pub ruleset cut_laws = (each-total, packed-over)
