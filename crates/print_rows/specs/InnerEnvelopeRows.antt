-- For contracts of inner functions only: the rows of a dump about a stereo payload's envelopes.
use Rattle.std.specs.Prelude.{ℕ, List, [], ◌∷◌, ◌++◌, Bool, eqb, get_or}
use Rattle.stereo_indices.specs.Rows.{no_row}
use Rattle.stereo_indices.specs.declared.Row.{Row}
use Rattle.stereo.specs.Extension.{no_phases}
use Rattle.stereo.specs.declared.Setup.{Setup}
use Rattle.stereo.specs.declared.Phases.{Phases}
use Rattle.stereo.specs.declared.Contents.{Contents}
use Rattle.print_lines.specs.InnerText.{ascii, line}
use Rattle.print_rows.specs.InnerEach.{indices_text}
use Rattle.print_rows.specs.InnerMarks.{direction_mark}

-- what the e-th envelope holds of each kind
abbrev pub iid_at : Contents → ℕ → Row
iid_at c e = get_or c.iid e no_row

abbrev pub icc_at : Contents → ℕ → Row
icc_at c e = get_or c.icc e no_row

abbrev pub phases_at : Contents → ℕ → Phases
phases_at c e = get_or c.extension.part.body.phases e no_phases

-- level and coherence are sent where they are on, phases together
abbrev pub are_phases_on : Contents → Bool
are_phases_on c = eqb c.extension.part.body.phase 1

-- how the four kinds of an envelope were coded
unfoldable pub envelope_row : Contents → Setup → ℕ → List ℕ
envelope_row c setup e =
    line "  envelope # iid # icc # ipd # opd #"
    (e ∷ direction_mark setup.iid (iid_at c e).time
    ∷ direction_mark setup.icc (icc_at c e).time
    ∷ direction_mark (are_phases_on c) (phases_at c e).ipd.time
    ∷ direction_mark (are_phases_on c) (phases_at c e).opd.time
    ∷ [])

unfoldable pub iid_row : Contents → ℕ → List ℕ
iid_row c e = ascii "  iid" ++ indices_text (iid_at c e).indices

unfoldable pub icc_row : Contents → ℕ → List ℕ
icc_row c e = ascii "  icc" ++ indices_text (icc_at c e).indices

unfoldable pub ipd_row : Contents → ℕ → List ℕ
ipd_row c e = ascii "  ipd" ++ indices_text (phases_at c e).ipd.indices

unfoldable pub opd_row : Contents → ℕ → List ℕ
opd_row c e = ascii "  opd" ++ indices_text (phases_at c e).opd.indices
