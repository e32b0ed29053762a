-- A header that is whole is judged field by field at fixed places, so its reader's answer is settled by the tests of these fields.
-- Assumes nothing.
use Prim.Native.Nat.{ℕ, ◌*◌, ◌<◌, ◌≤◌}
use mathlib.Core.Path.{◌≡◌, refl, ap}
use mathlib.Core.Bool.{Bool, true, false}
use mathlib.Core.List.{List}
use native.Mathlib.Omega.{arith}
use lib.Dec.{eqb}
use lib.ListN.{length}
use borrow.Author.Tests.{ne_eqb, le-leb, lt-leb}
use Rattle.bits.specs.Bits.{bits_from}
use Rattle.bits.proofs.BitLaws.{bits_from-lt}
use Rattle.bits.specs.Reader.{got, refused, pick}
use Rattle.bits.specs.Field.{field}
use Rattle.bits.specs.Places.{placed, one_field}
use Rattle.bits.specs.Inside.{renumbered, inside}
use Rattle.bits.specs.Sampling.{known_index}
use Rattle.adts.specs.Header.{syncword, only, sampling_index, fixed_half, variable_half, header}
use Rattle.adts.specs.Frame.{whole_header, fitting, length_judged, frame_header}
use Rattle.adts.specs.InnerHeader.{index_in, kept, header_refusal}

-- the reader of a whole header, by the tests of its fields
header_is : (s : List ℕ)
    → placed (renumbered 10 (header s 0 56)) 0 ≡ pick (eqb (header_refusal s) 0) (got (kept s) 56) (refused (header_refusal s) 0)
unfolding header_refusal header fixed_half variable_half syncword only sampling_index field
header_is s =
    go (eqb (bits_from s 0 12) 4095) (eqb (bits_from s 13 2) 0) (eqb (bits_from s 15 1) 1) (eqb (bits_from s 16 2) 1)
    (known_index (index_in s))
    (eqb (bits_from s 23 3) 1) (eqb (bits_from s 54 2) 0) refl refl refl refl refl refl refl
  where
    go : (a b c d e f g : Bool) → eqb (bits_from s 0 12) 4095 ≡ a → eqb (bits_from s 13 2) 0 ≡ b → eqb (bits_from s 15 1) 1 ≡ c
        → eqb (bits_from s 16 2) 1 ≡ d → known_index (index_in s) ≡ e → eqb (bits_from s 23 3) 1 ≡ f → eqb (bits_from s 54 2) 0 ≡ g
        → placed (renumbered 10 (header s 0 56)) 0 ≡ pick (eqb (header_refusal s) 0) (got (kept s) 56) (refused (header_refusal s) 0)
    go false b c d e f g p q r t u v w = rw p
    go true false c d e f g p q r t u v w = rw (p, q)
    go true true false d e f g p q r t u v w = rw (p, q, r)
    go true true true false e f g p q r t u v w = rw (p, q, r, t)
    go true true true true false f g p q r t u v w = rw (p, q, r, t, u)
    go true true true true true false g p q r t u v w = rw (p, q, r, t, u, v)
    go true true true true true true false p q r t u v w = rw (p, q, r, t, u, v, w)
    go true true true true true true true p q r t u v w = rw (p, q, r, t, u, v, w)

-- a header that is not whole
pub header-short : (s : List ℕ) → length s < 7 → refused 10 0 ≡ frame_header s
unfolding frame_header whole_header one_field inside
header-short s h = rw (lt-leb 56 (8 * length s) (omega arith))

-- a whole header, by the tests of its fields
whole_is : (s : List ℕ) → 7 ≤ length s
    → frame_header s ≡ length_judged (length s) (pick (eqb (header_refusal s) 0) (got (kept s) 56) (refused (header_refusal s) 0))
unfolding frame_header whole_header one_field inside
whole_is s h = rw (le-leb 56 (8 * length s) (omega arith)) (ap (length_judged (length s)) (header_is s))

pub header_fault : (s : List ℕ) {n : ℕ} → 7 ≤ length s → n ≡ header_refusal s → (n ≡ 0 → ⊥) → refused n 0 ≡ frame_header s
header_fault s h e o = rw (whole_is s h, ← e, ne_eqb _ 0 o)

pub header-right : (s : List ℕ) {n : ℕ} → 7 ≤ length s → n ≡ header_refusal s → n ≡ 0 → fitting (length s) (kept s) ≡ frame_header s
header-right s h e o = rw (whole_is s h, ← e, o)

-- what the code cites
pub ruleset field_laws = (bits_from-lt)

pub ruleset header_laws = (header-short, header_fault, header-right)
