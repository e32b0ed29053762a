-- Bits that are cut out stand at the front of their bytes, with zeros after them; so they are settled by these bits alone.
-- Assumes nothing.
use Prim.Native.Nat.{ℕ, zero, suc, ◌+◌, ◌*◌, ◌≤◌}
use mathlib.Core.Path.{◌≡◌, refl, sym, ◌∙◌, ap}
use mathlib.Core.List.{List, [], ◌∷◌, ◌++◌}
use native.Mathlib.Omega.{arith}
use native.Mathlib.Decide.{dec_lt}
use native.Mathlib.Nat.{zero-add}
use lib.ListN.{length}
use Rattle.bits.specs.Bits.{bit_at, bits_from}
use Rattle.bits.specs.Pieces.{Piece, piece, total}
use Rattle.bits.specs.Packed.{bytes_for, packed}
use Rattle.bits.proofs.BitLaws.{bit_at_lt}
use Rattle.bits.proofs.Back.{holds-first, holds-rest}
use Rattle.bits.proofs.Holds.{Holds}
use Rattle.bits.proofs.Moves.{Alike}
use Rattle.bits.proofs.PackedLaws.{AreBytes, packed-holds, packed-length, packed-bytes, packed_pad, bytes-ext}
use Rattle.bits.proofs.PutLaws.{Sized}
use Rattle.adts.specs.Cut.{each_bit, cut_out}
use Rattle.adts.proofs.CutLaws.{each-total}

-- pieces after pieces
pub sized-append : (ps qs : List Piece) → Sized ps → Sized qs → Sized (ps ++ qs)
sized-append [] qs a b = b
sized-append (p ∷ ps) qs a b = (a.0, sized-append ps qs a.1 b)

-- each bit is below 2
pub each-sized : (s : List ℕ) (at n : ℕ) → Sized (each_bit s at n)
unfolding each_bit
each-sized s at zero = tt
each-sized s at (suc n) = sized-append (each_bit s at n) (piece (bit_at s (at + n)) 1 ∷ []) (each-sized s at n) (bit_at_lt s (at + n), tt)

-- bytes that hold bits have the same bits
pub holds-alike : (s t : List ℕ) (at place n : ℕ) → Holds t place (each_bit s at n) → Alike s at t place n
unfolding each_bit bits_from
holds-alike s t at place zero h i l = absurd (omega arith)
holds-alike s t at place (suc n) h i l =
    let last = piece (bit_at s (at + n)) 1 ∷ [] in
    elim (dec_lt i n) [
      | yes d ↦ holds-alike s t at place n (holds-first t place (each_bit s at n) last h) i d
      | no d ↦
          let e : i ≡ n = omega arith in
          let end = holds-rest t place (each_bit s at n) last h in
          let z : place + total (each_bit s at n) + 0 ≡ place + n = omega (arith, each-total s at n) in
          let b : 0 * 2 + bit_at t (place + total (each_bit s at n) + 0) ≡ bit_at s (at + n) = end.0 in
          rw e (sym (sym (rw z (omega arith)) ∙ b))
    ]

-- the bits that are cut out
pub cut-alike : (s : List ℕ) (at n : ℕ) → Alike s at (cut_out s at n) 0 n
unfolding cut_out
cut-alike s at n = holds-alike s (packed (each_bit s at n)) at 0 n (packed-holds (each_bit s at n) (each-sized s at n))

pub cut-length : (s : List ℕ) (at n : ℕ) → length (cut_out s at n) ≡ bytes_for n
unfolding cut_out
cut-length s at n = packed-length (each_bit s at n) ∙ ap bytes_for (each-total s at n)

-- the same bits are the same pieces
each_same : (s t : List ℕ) (at place n : ℕ) → Alike s at t place n → each_bit s at n ≡ each_bit t place n
unfolding each_bit
each_same s t at place zero q = refl
each_same s t at place (suc n) q = rw (each_same s t at place n (λ i l. q i (omega arith)), q n (omega arith))

-- so what is cut out of them is the same
pub cut-same : (s t : List ℕ) (at place n : ℕ) → Alike s at t place n → cut_out s at n ≡ cut_out t place n
unfolding cut_out
cut-same s t at place n q = ap packed (each_same s t at place n q)

-- bytes whose bits past the n-th are 0, and which are no more than n bits take, are cut out whole
pub cut-whole : (s : List ℕ) (n : ℕ) → AreBytes s → length s ≡ bytes_for n → ((i : ℕ) → n ≤ i → bit_at s i ≡ 0) → cut_out s 0 n ≡ s
unfolding cut_out
cut-whole s n b l z =
    bytes-ext (packed (each_bit s 0 n)) s (packed-bytes (each_bit s 0 n)) b (cut-length s 0 n ∙ sym l) λ i. elim (dec_lt i n) [
      | yes d ↦ sym (rw (zero-add i) at (cut-alike s 0 n i d))
      | no d ↦ packed_pad (each_bit s 0 n) i (omega (arith, each-total s 0 n)) ∙ sym (z i (omega arith))
    ]
