-- The bytes of a spelling: they hold it, they are bytes, the bits past it are 0, and no other bytes are so.
-- Assumes nothing.
use Prim.Native.Nat.{ℕ, zero, suc, ◌+◌, ◌-◌, ◌*◌, ◌/◌, ◌%◌, ◌<◌, ◌≤◌, ◌^◌}
use mathlib.Core.Path.{◌≡◌, sym, ◌∙◌, ap}
use mathlib.Core.Logic.{inr}
use mathlib.Core.List.{List, [], ◌∷◌, ◌++◌}
use native.Mathlib.Omega.{arith}
use native.Mathlib.Nat.{zero-div}
use native.Mathlib.Decide.{dec_lt, ℕ_discrete}
use lib.ListN.{length, get_or, take, replicate, length-replicate, get_or-replicate, get_or-eq_default, replicate-append-replicate}
use lib.Seq.{get_or-set_same, get_or-set_other, set_out, ext_get_or, take_at}
use Rattle.bits.specs.Bits.{bit_at}
use Rattle.bits.specs.Pieces.{Piece, total}
use Rattle.bits.proofs.Holds.{Holds}
use Rattle.bits.specs.Packed.{replaced, set_bit, put, put_all, packed, bytes_for}
use Rattle.bits.proofs.BitLaws.{bits_from-same}
use Rattle.bits.proofs.FourBytes.{byte-is}
use Rattle.bits.proofs.PutLaws.{Sized, replaced-lt, put-all-length, put-all_other, put-all-holds, put-all-append}

pub packed-holds : (ps : List Piece) → Sized ps → Holds (packed ps) 0 ps
unfolding packed
packed-holds ps z = put-all-holds (replicate (bytes_for (total ps)) 0) 0 ps z
    (omega (arith, length-replicate {A = ℕ} (bytes_for (total ps)) 0))

pub packed-length : (ps : List Piece) → length (packed ps) ≡ bytes_for (total ps)
unfolding packed
packed-length ps = put-all-length (replicate (bytes_for (total ps)) 0) 0 ps ∙ length-replicate {A = ℕ} (bytes_for (total ps)) 0

-- a scratch array that holds more
pub scratch : (n : ℕ) (ps : List Piece) → bytes_for (total ps) ≤ n
    → put_all (replicate n 0) 0 ps ≡ packed ps ++ replicate (n - bytes_for (total ps)) 0
unfolding packed
scratch n ps h =
    let e : n ≡ bytes_for (total ps) + (n - bytes_for (total ps)) = omega arith in
    ap (λ (l : List ℕ). put_all l 0 ps)
    (ap (λ (m : ℕ). replicate m (let z : ℕ = 0 in z)) e
    ∙ sym (replicate-append-replicate {A = ℕ} (bytes_for (total ps)) (n - bytes_for (total ps)) 0))
    ∙ put-all-append (replicate (bytes_for (total ps)) 0) (replicate (n - bytes_for (total ps)) 0) 0 ps
    (omega (arith, length-replicate {A = ℕ} (bytes_for (total ps)) 0))

-- the first bytes of the scratch array are the spelling's
pub scratch-bytes : (n : ℕ) (ps : List Piece) → bytes_for (total ps) ≤ n
    → take (bytes_for (total ps)) (put_all (replicate n 0) 0 ps) ≡ packed ps
scratch-bytes n ps h = rw (scratch n ps h)
    (take_at (packed ps) (replicate (n - bytes_for (total ps)) 0) (bytes_for (total ps)) (packed-length ps))

abbrev pub AreBytes : List ℕ → Type 0
AreBytes s = (i : ℕ) → get_or s i 0 < 256

set-bytes : (s : List ℕ) (i b : ℕ) → b < 2 → AreBytes s → AreBytes (set_bit s i b)
set-bytes s i b l a j =
    elim (ℕ_discrete j (i / 8)) [
      | yes e ↦ elim (dec_lt (i / 8) (length s)) [
        | yes m ↦ rw (e, get_or-set_same s (i / 8) (replaced (get_or s (i / 8) 0) (7 - i % 8) b) 0 m)
            (replaced-lt (get_or s (i / 8) 0) (7 - i % 8) b (a (i / 8)) (omega arith) l)
        | no m ↦ rw (set_out s (i / 8) (replaced (get_or s (i / 8) 0) (7 - i % 8) b) (omega arith)) (a j)
      ]
      | no d ↦ rw (get_or-set_other s (i / 8) j (replaced (get_or s (i / 8) 0) (7 - i % 8) b) 0 d) (a j)
    ]

put-bytes : (s : List ℕ) (at v n : ℕ) → AreBytes s → AreBytes (put s at v n)
unfolding put
put-bytes s at v zero a = a
put-bytes s at v (suc n) a = set-bytes (put s at (v / 2) n) (at + n) (v % 2) (omega arith) (put-bytes s at (v / 2) n a)

put-all-bytes : (s : List ℕ) (at : ℕ) (ps : List Piece) → AreBytes s → AreBytes (put_all s at ps)
unfolding put_all
put-all-bytes s at [] a = a
put-all-bytes s at (p ∷ ps) a = put-all-bytes (put s at p.value p.size) (at + p.size) ps (put-bytes s at p.value p.size a)

zero-at : (n i : ℕ) → ◌≡◌ {A = ℕ} (get_or (replicate n 0) i 0) 0
zero-at n i =
    elim (dec_lt i n) [
      | yes d ↦ get_or-replicate {A = ℕ} n i 0 0 d
      | no d ↦ get_or-eq_default (replicate n 0) 0 (omega (arith, length-replicate {A = ℕ} n 0))
    ]

pub packed-bytes : (ps : List Piece) → AreBytes (packed ps)
unfolding packed
packed-bytes ps = put-all-bytes (replicate (bytes_for (total ps)) 0) 0 ps (λ i. omega (arith, zero-at (bytes_for (total ps)) i))

-- the bits past the spelling are 0
pub packed_pad : (ps : List Piece) (i : ℕ) → total ps ≤ i → bit_at (packed ps) i ≡ 0
unfolding packed bit_at
packed_pad ps i h =
    put-all_other (replicate (bytes_for (total ps)) 0) 0 ps i (inr (omega arith))
    ∙ rw (zero-at (bytes_for (total ps)) (i / 8)) (zero_bit (7 - i % 8))
  where
    zero_bit : (k : ℕ) → 0 / 2 ^ k % 2 ≡ 0
    zero_bit k = rw (zero-div (2 ^ k))

-- bytes are settled by their bits
pub bytes-ext : (s t : List ℕ) → AreBytes s → AreBytes t → length s ≡ length t → ((i : ℕ) → bit_at s i ≡ bit_at t i) → s ≡ t
bytes-ext s t a b l e =
    ext_get_or 0 s t l (λ i h. sym (byte-is s i (a i)) ∙ bits_from-same s t (8 * i) 8 (8 * i + 8) (omega arith) (λ j p q. e j)
    ∙ byte-is t i (b i))
