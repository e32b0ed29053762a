-- Demand 2: what the buffer holds after `write` is read back to the same; an accepted payload's contents are written back to its bits;
-- and 40 is answered exactly where no payload has the contents.
-- Assumes nothing.
use Prim.Native.Nat.{ℕ, ◌+◌, ◌-◌, ◌<◌, ◌≤◌}
use mathlib.Core.Path.{◌≡◌, refl, sym, ap, ◌∙◌}
use mathlib.Core.List.{List, ◌++◌}
use mathlib.Core.Bool.{Bool, true, false}
use native.Mathlib.Omega.{arith}
use borrow.Author.Tests.{le-leb, eq-eqb}
use lib.ListN.{length, take, drop, length-append}
use lib.Seq.{take-append_seam}
use Rattle.bits.specs.Bits.{bit_at}
use Rattle.bits.specs.Reader.{pick}
use Rattle.bits.specs.Payload.{Range, range_in, is_there, bytes_in}
use Rattle.bits.specs.Pieces.{total}
use Rattle.bits.specs.Packed.{bytes_for, packed}
use Rattle.bits.proofs.Exact.{ReadTo}
use Rattle.bits.proofs.PayloadLaws.{bit_take}
use Rattle.bits.proofs.PackedLaws.{packed-length}
use Rattle.stereo.specs.State.{sound}
use Rattle.stereo.specs.Payload.{payload}
use Rattle.stereo_reader.specs.Reading.{from, read_bytes, read_from}
use Rattle.stereo.specs.declared.State.{State}
use Rattle.stereo.specs.declared.Contents.{Contents}
use Rattle.stereo_reader.specs.declared.Reading.{Reading}
use Rattle.stereo_writer.specs.declared.Written.{Written}
use Rattle.stereo_writer.specs.Spelling.{spelling}
use Rattle.stereo_writer.specs.Writing.{unwritten, writing, written_over}
use Rattle.stereo_writer.proofs.WritingLaws.{success, write_read, read-write, forty}
use Rattle.promises.proofs.Acceptance.{in-range}

-- the front of a buffer
front_in : (xs ys : List ℕ) (n : ℕ) → n ≡ length xs →
    (is_there (range_in (xs ++ ys) 0 n) ≡ true) × (bytes_in (range_in (xs ++ ys) 0 n) ≡ xs)
front_in xs ys n e = (
  rw (length-append xs ys, le-leb 0 n (omega arith), le-leb n (length xs + length ys) (omega arith)),
  let q : n - 0 ≡ length xs = omega arith in ap (λ (k : ℕ). take k (xs ++ ys)) q ∙ take-append_seam xs ys,
)

module _ (st : State) (c : Contents) (out : List ℕ) where
  abbrev w : Written
  w = writing st c (length out)

  -- the buffer afterwards, where the writer succeeded
  over-is : w.number ≡ 0 → written_over w st c out ≡ packed (spelling (from st) c) ++ drop (bytes_for (total (spelling (from st) c))) out
  unfolding written_over
  over-is e = rw (eq-eqb w.number 0 e)

  -- its bits are those of the spelling
  bits-there : w.number ≡ 0 → (i : ℕ) → i < w.bits → bit_at (written_over w st c out) i ≡ bit_at (packed (spelling (from st) c)) i
  bits-there e i h =
      let xs = packed (spelling (from st) c) in
      let ys = drop (bytes_for (total (spelling (from st) c))) out in
      let l = packed-length (spelling (from st) c) in
      let b = (success st c (length out) e).bits in
      ap (λ (s : List ℕ). bit_at s i) (over-is e)
      ∙ sym (bit_take (xs ++ ys) (length xs) i (omega arith))
      ∙ ap (λ (s : List ℕ). bit_at s i) (take-append_seam xs ys)

  -- read from the front of the buffer that it was written to
  pub written_back : w.number ≡ 0
      → read_from st (range_in (written_over w st c out) 0 (bytes_for w.bits))
      ≡ record { number = 0; place = 0; bits = w.bits; contents = c; state = w.state }
  unfolding read_from
  written_back e =
      let good = success st c (length out) e in
      let xs = packed (spelling (from st) c) in
      let n : bytes_for w.bits ≡ length xs = ap bytes_for good.bits ∙ sym (packed-length (spelling (from st) c)) in
      let f = front_in xs (drop (bytes_for (total (spelling (from st) c))) out) (bytes_for w.bits) n in
      rw (over-is e, f.0, good.stands, f.1) (write_read st c (length out) e)

-- an accepted payload, written from the same state into a buffer that has room for it
module _ (st : State) (p : Range) (out : List ℕ) where
  abbrev r : Reading
  r = read_from st p

  pub read_back : r.number ≡ 0 → bytes_for r.bits ≤ length out
      → (writing st r.contents (length out) ≡ record { number = 0; bits = r.bits; state = r.state })
      × ((i : ℕ) → i < r.bits
      → bit_at (written_over (writing st r.contents (length out)) st r.contents out) i ≡ bit_at (bytes_in p) i)
  read_back e h =
      let i = in-range st p e in
      let s = bytes_in p in
      let bits : r.bits ≡ (read_bytes st s).bits = ap (λ (x : Reading). x.bits) i.2 in
      let z : (read_bytes st s).number ≡ 0 = ap (λ (x : Reading). x.number) (sym i.2) ∙ e in
      let w = read-write st s (length out) i.1 z (rw (← bits) h) in
      rw i.2 (
        w.0,
        λ k l.
            bits-there st (read_bytes st s).contents out (ap (λ (x : Written). x.number) w.0) k (rw w.0 l)
            ∙ w.1 k l,
      )

-- 40 exactly
pub forty_exactly : (st : State) (c : Contents) (room : ℕ) → (writing st c room).number ≡ 40
    → (sound st ≡ true) × (ReadTo (payload (from st)) c → ⊥)
unfolding writing
forty_exactly st c room e = (stands (sound st) _ e, forty st c room e)
  where
    stands : (b : Bool) (x : Written) → (pick b x (unwritten 4 st)).number ≡ 40 → b ≡ true
    stands true x q = refl
    stands false x q = absurd (omega arith)
