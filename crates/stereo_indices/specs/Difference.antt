-- The words of the differences, and an index with a difference added.
use Rattle.std.specs.Prelude.{ℕ, ◌+◌, ◌%◌, eqb, ℤ, pos, ◌+ℤ◌, ◌-ℤ◌, nat_abs}
use Rattle.bits.specs.Reader.{Reader, pick}
use Rattle.tables.specs.Tables.{Table, word_of}
use Rattle.tables.specs.GeneratedNames.{level_default_frequency, level_default_time, level_fine_frequency, level_fine_time}
use Rattle.tables.specs.GeneratedNames.{coherence_frequency}
use Rattle.tables.specs.GeneratedNames.{coherence_time}
use Rattle.tables.specs.GeneratedNames.{phase_frequency, phase_time, overall_phase_frequency, overall_phase_time}
use Rattle.stereo_indices.specs.Kind.{is_phase, fine, by_kind}
use Rattle.stereo_indices.specs.declared.Kind.{Kind}
use Rattle.stereo_indices.specs.declared.Kind.TheVariants.{Iid, Icc, Ipd, Opd}

-- the table across frequency, or the one across time where the time flag is 1
abbrev pub by_time : ℕ → Table → Table → Table
by_time time frequency across = pick (eqb time 1) across frequency

-- the table of a kind's differences
unfoldable pub difference_table : Kind → ℕ → ℕ → Table
difference_table Iid mode time =
    pick (fine mode) (by_time time level_fine_frequency level_fine_time) (by_time time level_default_frequency level_default_time)
difference_table Icc mode time = by_time time coherence_frequency coherence_time
difference_table Ipd mode time = by_time time phase_frequency phase_time
difference_table Opd mode time = by_time time overall_phase_frequency overall_phase_time

-- the word of a difference
unfoldable pub difference : Kind → ℕ → ℕ → Reader ℕ
difference k mode time = word_of (difference_table k mode time)

-- the entry that is no difference
unfoldable pub middle : Kind → ℕ → ℕ
middle k mode = by_kind k mode 30 14 7 0

-- an index with the difference of an entry added; phases, which are never negative, modulo 8
unfoldable pub added : Kind → ℕ → ℤ → ℕ → ℤ
added k mode x entry = pick (is_phase k) (pos ((nat_abs x + entry) % 8)) (x +ℤ (pos entry -ℤ pos (middle k mode)))
