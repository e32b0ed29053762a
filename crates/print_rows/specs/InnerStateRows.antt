-- For contracts of inner functions only: the rows of a dump about the stereo state after a payload.
use Rattle.std.specs.Prelude.{ℕ, List, [], ◌∷◌, ◌++◌, eqb}
use Rattle.bits.specs.Reader.{pick}
use Rattle.bits.specs.Bytes.{flag_byte}
use Rattle.stereo_indices.specs.declared.Record.{Record}
use Rattle.stereo.specs.State.{is_sent}
use Rattle.stereo.specs.declared.State.{State}
use Rattle.print_lines.specs.InnerText.{form_text, line, ascii}
use Rattle.print_rows.specs.InnerEach.{indices_text}
use Rattle.print_rows.specs.InnerMarks.{none, mode_mark}

-- the modes, the enable flags, and the in-step mark
unfoldable pub state_row : State → List ℕ
state_row s =
    line "  state iid # icc # enabled # # # step #"
    (mode_mark (is_sent s.setup.iidmode) s.setup.iidmode
    ∷ mode_mark (is_sent s.setup.iccmode) s.setup.iccmode
    ∷ flag_byte s.setup.iid
    ∷ flag_byte s.setup.icc
    ∷ flag_byte s.setup.ext
    ∷ flag_byte s.instep
    ∷ [])

-- the mode of a record and its indices; mode 7 is none
unfoldable pub record_row : List ℕ → Record → List ℕ
record_row form r = pick (eqb r.mode 7) (form_text form (none ∷ [])) (form_text form (r.mode ∷ []) ++ indices_text r.indices)

abbrev pub iid_record : State → List ℕ
iid_record s = record_row (ascii "  record iid #") s.iid

abbrev pub icc_record : State → List ℕ
icc_record s = record_row (ascii "  record icc #") s.icc

abbrev pub ipd_record : State → List ℕ
ipd_record s = record_row (ascii "  record ipd #") s.ipd

abbrev pub opd_record : State → List ℕ
opd_record s = record_row (ascii "  record opd #") s.opd
