-- The four kinds of indices, and what differs between them: how many bands, and the range of an index.
use Rattle.std.specs.Prelude.{ℕ, ◌%◌, Bool, true, false, not, ◌&&◌, eqb, leb, ℤ, pos, neg_ℤ}
use Rattle.std.specs.Int.Signed.{lt_z}
use Rattle.bits.specs.Reader.{pick}
use Rattle.stereo_indices.specs.declared.Kind.{Kind}
use Rattle.stereo_indices.specs.declared.Kind.TheVariants.{Iid, Icc, Ipd, Opd}

-- IPD and OPD are phases
abbrev pub is_phase : Kind → Bool
is_phase Iid = false
is_phase Icc = false
is_phase Ipd = true
is_phase Opd = true

-- modes 3 to 5 are fine
abbrev pub fine : ℕ → Bool
fine mode = leb 3 mode

-- the first, second or third of three, by the mode modulo 3
abbrev pub by_mode : ℕ → ℕ → ℕ → ℕ → ℕ
by_mode mode a b c = pick (eqb (mode % 3) 0) a (pick (eqb (mode % 3) 1) b c)

-- by the mode modulo 3: 10, 20 or 34 bands; of phases 5, 11 or 17
unfoldable pub bands : Kind → ℕ → ℕ
bands k mode = pick (is_phase k) (by_mode mode 5 11 17) (by_mode mode 10 20 34)

-- one of four, by kind and grid: fine levels, default levels, coherence, phases
abbrev pub by_kind : {A : Type 0} → Kind → ℕ → A → A → A → A → A
by_kind Iid mode a b c d = pick (fine mode) a b
by_kind Icc mode a b c d = c
by_kind Ipd mode a b c d = d
by_kind Opd mode a b c d = d

-- IID within 7, in fine modes 15, either way; all others 0 to 7
unfoldable pub least : Kind → ℕ → ℤ
least k mode = by_kind k mode (neg_ℤ (pos 15)) (neg_ℤ (pos 7)) (pos 0) (pos 0)

unfoldable pub most : Kind → ℕ → ℤ
most k mode = by_kind k mode (pos 15) (pos 7) (pos 7) (pos 7)

-- not below the one, not above the other
unfoldable pub within : ℤ → ℤ → ℤ → Bool
within low high x = not (lt_z x low) && not (lt_z high x)

abbrev pub in_range : Kind → ℕ → ℤ → Bool
in_range k mode = within (least k mode) (most k mode)
