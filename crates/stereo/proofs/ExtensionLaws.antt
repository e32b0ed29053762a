-- The records that some envelopes leave, and how small esc_count is.
-- Assumes nothing.
use Prim.Native.Nat.{ℕ, ◌<◌}
use mathlib.Core.Path.{◌≡◌, refl, ap}
use mathlib.Core.List.{List, [], ◌∷◌, ◌++◌}
use mathlib.Core.Bool.{Bool, true, false}
use native.Mathlib.Omega.{arith}
use lib.Dec.{eqb}
use Rattle.bits.specs.Reader.{got, give, pick}
use Rattle.bits.specs.Field.{field}
use Rattle.bits.proofs.Taken.{field_below}
use Rattle.stereo_indices.specs.Record.{record_of}
use Rattle.stereo_indices.specs.Rows.{record_after_rows}
use Rattle.stereo_indices.specs.declared.Record.{Record}
use Rattle.stereo_indices.specs.declared.Row.{Row}
use Rattle.stereo_indices.proofs.RowLaws.{record_after_rows-more}
use Rattle.stereo.specs.Extension.{ipds, opds}
use Rattle.stereo.specs.Extension.{esc_count}
use Rattle.stereo.specs.declared.Phases.{Phases}

-- the rows of one envelope more
ipds-more : (ps : List Phases) (p : Phases) → ipds (ps ++ p ∷ []) ≡ ipds ps ++ p.ipd ∷ []
ipds-more [] p = refl
ipds-more (q ∷ ps) p = ap (λ (rs : List Row). q.ipd ∷ rs) (ipds-more ps p)

opds-more : (ps : List Phases) (p : Phases) → opds (ps ++ p ∷ []) ≡ opds ps ++ p.opd ∷ []
opds-more [] p = refl
opds-more (q ∷ ps) p = ap (λ (rs : List Row). q.opd ∷ rs) (opds-more ps p)

-- the records after one envelope more
pub after-ipds : (h : Record) (mode : ℕ) (ps : List Phases) (p : Phases)
    → record_after_rows h mode (ipds (ps ++ p ∷ [])) ≡ record_of mode p.ipd.indices
after-ipds h mode ps p = rw (ipds-more ps p) (record_after_rows-more h mode (ipds ps) p.ipd)

pub after-opds : (h : Record) (mode : ℕ) (ps : List Phases) (p : Phases)
    → record_after_rows h mode (opds (ps ++ p ∷ [])) ≡ record_of mode p.opd.indices
after-opds h mode ps p = rw (opds-more ps p) (record_after_rows-more h mode (opds ps) p.opd)

-- esc_count is small
pub esc-below : (size : ℕ) (s : List ℕ) (at end esc next : ℕ) → esc_count size s at end ≡ got esc next → esc < 256
unfolding esc_count
esc-below size s at end esc next q = go (eqb size 15) q
  where
    go : (b : Bool) → pick b (field 8) (give 0) s at end ≡ got esc next → esc < 256
    go true q = field_below 8 s at end esc next q
    go false q = let e : 0 ≡ esc = cc in omega arith
