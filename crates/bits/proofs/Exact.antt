-- What is read of any bits is read of its own spelling. So a value can be written exactly when some bits are read to it, and what is
-- written of what was read is the bits that were used, and zero bits to the end of the last byte.
-- Assumes nothing.
use Prim.Native.Nat.{ℕ, zero, suc, ◌+◌, ◌-◌, ◌*◌, ◌<◌, ◌≤◌}
use mathlib.Core.Path.{◌≡◌, sym, ◌∙◌, ap, subst}
use mathlib.Core.Bool.{Bool, true, false}
use mathlib.Core.List.{List, [], ◌∷◌, ◌++◌}
use native.Mathlib.Omega.{arith}
use native.Mathlib.Decide.{dec_lt}
use lib.ListN.{length, replicate}
use Rattle.bits.specs.Bits.{bits_from, bit_at}
use Rattle.bits.specs.Reader.{Answer, got, refused, Reader}
use Rattle.bits.specs.Payload.{whole}
use Rattle.bits.specs.Pieces.{Piece, total}
use Rattle.bits.proofs.Holds.{Holds}
use Rattle.bits.specs.Packed.{put_all, packed, bytes_for}
use Rattle.bits.specs.Writable.{matches, writable}
use Rattle.bits.proofs.BitLaws.{Same, bit_at_lt}
use Rattle.bits.proofs.Lawful.{Lawful}
use Rattle.bits.proofs.PayloadLaws.{whole-got, whole_is}
use Rattle.bits.proofs.Spelt.{Spelt}
use Rattle.bits.proofs.PutLaws.{holds-sized, bit_append}
use Rattle.bits.proofs.PackedLaws.{AreBytes, scratch, packed-holds, packed-length, packed-bytes, packed_pad, bytes-ext}

-- equal runs have equal bits
run-same : (s t : List ℕ) (at n : ℕ) → bits_from s at n ≡ bits_from t at n → Same s t at (at + n)
unfolding bits_from
run-same s t at zero e i h l = absurd (omega arith)
run-same s t at (suc n) e i h l =
    let a : bits_from s at n ≡ bits_from t at n = omega (arith, bit_at_lt s (at + n), bit_at_lt t (at + n)) in
    let b : bit_at s (at + n) ≡ bit_at t (at + n) = omega (arith, bit_at_lt s (at + n), bit_at_lt t (at + n)) in
    elim (dec_lt i (at + n)) [
      | yes d ↦ run-same s t at n a i h d
      | no d ↦ let q : i ≡ at + n = omega arith in rw q b
    ]

pub holds_same : (s t : List ℕ) (at : ℕ) (ps : List Piece) → Holds s at ps → Holds t at ps → Same s t at (at + total ps)
holds_same s t at [] h g i a b = absurd (omega arith)
holds_same s t at (p ∷ ps) h g i a b =
    elim (dec_lt i (at + p.size)) [
      | yes d ↦ run-same s t at p.size (h.0 ∙ sym g.0) i a d
      | no d ↦ holds_same s t (at + p.size) ps h.1 g.1 i (omega arith) (omega arith)
    ]

-- what a reader makes of a spelling in a longer scratch array is what it makes of the spelling's bytes
pub scratch-read : {A : Type 0} (r : Reader A) → Lawful r → (n : ℕ) (ps : List Piece) → bytes_for (total ps) ≤ n
    → r (put_all (replicate n 0) 0 ps) 0 (total ps) ≡ r (packed ps) 0 (total ps)
scratch-read r g n ps h =
    rw (scratch n ps h)
    (g.accepts.local (packed ps ++ replicate (n - bytes_for (total ps)) 0) (packed ps) 0 (total ps) (omega arith)
    (λ i a b. bit_append (packed ps) (replicate (n - bytes_for (total ps)) 0) i (omega (arith, packed-length ps))))

-- a payload that is read to a value
abbrev pub ReadTo : {A : Type 0} → Reader A → A → Type 0
ReadTo r a = (s : List ℕ) × AreBytes s × (n : ℕ) × (whole r s ≡ got a n)

module _ {A : Type 0} (r : Reader A) (w : A → List Piece) (ok : A → Type 0) (g : Lawful r) (p : Spelt r [] w ok) where
  -- the bits that were used are the spelling
  used : (s : List ℕ) (end next : ℕ) (a : A) → r s 0 end ≡ got a next → Holds s 0 (w a) × (next ≡ total (w a))
  used s end next a e =
      let x = p.law s 0 end next a e in
      let q : total (w a) ≡ total x.0 = ap total x.1 in
      (subst (λ (ps : List Piece). Holds s 0 ps) (sym x.1) x.2, omega arith)

  -- what is read of any bits is read wherever its spelling stands, whatever follows
  pub read_back : (s t : List ℕ) (end next end' : ℕ) (a : A) → r s 0 end ≡ got a next → Holds t 0 (w a) → total (w a) ≤ end'
      → r t 0 end' ≡ got a (total (w a))
  read_back s t end next end' a e h l =
      let u = used s end next a e in
      let v : r s 0 (total (w a)) ≡ got a (total (w a)) =
      subst (λ (m : ℕ). r s 0 m ≡ got a m) u.1 (g.accepts.stable s 0 end next next a (omega arith) e (omega arith)) in
      let z : r t 0 (total (w a)) ≡ got a (total (w a)) =
      sym (g.accepts.local s t 0 (total (w a)) (omega arith) (λ i l k. holds_same s t 0 (w a) u.0 h i l (omega arith))) ∙ v in
      g.accepts.stable t 0 (total (w a)) (total (w a)) end' a (omega arith) z l

  pub spelling-read : (s : List ℕ) (end next : ℕ) (a : A) → r s 0 end ≡ got a next → r (packed (w a)) 0 (total (w a)) ≡ got a (total (w a))
  spelling-read s end next a e =
      read_back s (packed (w a)) end next (total (w a)) a e (packed-holds (w a) (holds-sized s 0 (w a) (used s end next a e).0))
      (omega arith)

  -- what is written of what was read: the bits that were used, and zero bits to the end of the last byte
  pub gives_back : (s : List ℕ) (end next : ℕ) (a : A) → r s 0 end ≡ got a next
      → (next ≡ total (w a)) × ((i : ℕ) → i < next → bit_at (packed (w a)) i ≡ bit_at s i)
  gives_back s end next a e =
      let u = used s end next a e in (
        u.1,
        λ i l. holds_same (packed (w a)) s 0 (w a) (packed-holds (w a) (holds-sized s 0 (w a) u.0)) u.0 i (omega arith)
            (omega arith),
      )

  -- a payload that ends within its last byte, with zero bits there, comes back whole
  pub whole_back : (s : List ℕ) (next : ℕ) (a : A) → r s 0 (8 * length s) ≡ got a next → AreBytes s → length s ≡ bytes_for next
      → ((i : ℕ) → next ≤ i → bit_at s i ≡ 0) → packed (w a) ≡ s
  whole_back s next a e b l z =
      let u = gives_back s (8 * length s) next a e in
      bytes-ext (packed (w a)) s (packed-bytes (w a)) b (packed-length (w a) ∙ ap bytes_for (sym u.0) ∙ sym l) (λ i.
      elim (dec_lt i next) [ yes d ↦ u.1 i d | no d ↦ packed_pad (w a) i (omega arith) ∙ sym (z i (omega arith)) ])

  module _ (same : A → A → Bool) (is : (a b : A) → same a b ≡ true → a ≡ b) (self : (a : A) → same a a ≡ true) where
    matched : (x : Answer A) (a : A) → matches same x a ≡ true → (next : ℕ) × (x ≡ got a next)
    matched (got b n) a e = (n, ap (λ (z : A). got z n) (is b a e))
    matched (refused m q) a e = let z : ◌≡◌ {A = ℕ} 0 1 = cc in absurd (omega arith)

    -- a value that can be written is read of its spelling
    pub written_read : (a : A) → writable same r w a ≡ true → r (packed (w a)) 0 (total (w a)) ≡ got a (total (w a))
    unfolding writable
    written_read a e =
        let m = matched (r (packed (w a)) 0 (total (w a))) a e in
        spelling-read (packed (w a)) (total (w a)) m.0 a m.1

    -- one that is read of any bits can be written
    pub read-writable : (s : List ℕ) (end next : ℕ) (a : A) → r s 0 end ≡ got a next → writable same r w a ≡ true
    unfolding writable
    read-writable s end next a e = rw (spelling-read s end next a e) (self a)

    -- exactly: a value that can be written is what some payload is read to, and one that can't is what none is read to
    pub can : (a : A) → writable same r w a ≡ true → ReadTo r a
    can a e =
        let l = packed-length (w a) in
        let b = g.accepts.stable (packed (w a)) 0 (total (w a)) (total (w a)) (8 * length (packed (w a))) a (omega arith)
        (written_read a e) (omega arith) in
        (packed (w a), packed-bytes (w a), total (w a), whole_is r (packed (w a)) (total (w a)) a b (omega arith))

    pub cannot : (a : A) → writable same r w a ≡ false → ReadTo r a → ⊥
    cannot a e x =
        let t = read-writable x.0 (8 * length x.0) x.2 a (whole-got r x.0 x.2 a x.3).0 in
        let z : ◌≡◌ {A = ℕ} 0 1 = cc in omega arith
