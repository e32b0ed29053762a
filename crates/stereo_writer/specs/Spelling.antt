-- What contents are spelled as from a state: the pieces of a payload that has them. It is total: what no payload holds is spelled somehow.
use Rattle.std.specs.Prelude.{ℕ, ◌+◌, ◌-◌, ◌%◌, min, List, [], ◌∷◌, ◌++◌, Bool, eqb, take, ℤ, pos, ◌+ℤ◌, ◌-ℤ◌, nat_abs}
use Rattle.bits.specs.Reader.{pick}
use Rattle.bits.specs.Pieces.{Piece, piece}
use Rattle.bits.specs.Spelled.{spell_each}
use Rattle.tables.specs.Tables.{spell_word}
use Rattle.stereo_indices.specs.Kind.{is_phase, bands}
use Rattle.stereo_indices.specs.Difference.{difference_table, middle}
use Rattle.stereo_indices.specs.Indices.{reference}
use Rattle.stereo_indices.specs.Rows.{record_after_rows}
use Rattle.stereo_indices.specs.declared.Kind.{Kind}
use Rattle.stereo_indices.specs.declared.Kind.TheVariants.{Iid, Icc, Ipd, Opd}
use Rattle.stereo_indices.specs.declared.Record.{Record}
use Rattle.stereo_indices.specs.declared.Row.{Row}
use Rattle.stereo.specs.Header.{setup_after}
use Rattle.stereo.specs.Extension.{ipds, opds}
use Rattle.stereo.specs.declared.Setup.{Setup}
use Rattle.stereo.specs.declared.State.{State}
use Rattle.stereo.specs.declared.Header.{Header}
use Rattle.stereo.specs.declared.Frame.{Frame}
use Rattle.stereo.specs.declared.Phases.{Phases}
use Rattle.stereo.specs.declared.Body.{Body}
use Rattle.stereo.specs.declared.Part.{Part}
use Rattle.stereo.specs.declared.Extension.{Extension}
use Rattle.stereo.specs.declared.Contents.{Contents}

-- a field of n bits
abbrev pub bit_field : ℕ → ℕ → List Piece
bit_field v n = piece v n ∷ []

-- the header: a mode only where its kind is on
unfoldable pub spell_mode : ℕ → ℕ → List Piece
spell_mode on mode = pick (eqb on 1) (bit_field mode 3) []

unfoldable pub spell_fields : Header → List Piece
spell_fields h =
    bit_field h.iid 1 ++ spell_mode h.iid h.iidmode ++ bit_field h.icc 1 ++ spell_mode h.icc h.iccmode ++ bit_field h.ext 1

unfoldable pub spell_header : Header → List Piece
spell_header h = bit_field h.there 1 ++ pick (eqb h.there 1) (spell_fields h) []

-- the frame: the index of the number of envelopes, of which there are no more than 4, and the borders where they are variable
unfoldable pub count_index : ℕ → ℕ → ℕ
count_index class n = pick (eqb class 1) (min n 4 - 1) (pick (eqb n 4) 3 (min n 4))

abbrev pub spell_border : List ℕ → ℕ → List Piece
spell_border done b = bit_field b 5

unfoldable pub spell_borders : ℕ → ℕ → List ℕ → List Piece
spell_borders class n bs = pick (eqb class 1) (spell_each spell_border [] (take n bs)) []

unfoldable pub spell_frame : Frame → List Piece
spell_frame fr = bit_field fr.class 1 ++ bit_field (count_index fr.class fr.envelopes) 2 ++ spell_borders fr.class
    fr.envelopes fr.borders

-- the entry whose difference leads from one index to another
unfoldable pub entry_to : Kind → ℕ → ℤ → ℤ → ℕ
entry_to k mode x y = pick (is_phase k) ((nat_abs y + 8 - nat_abs x % 8) % 8) (nat_abs (y -ℤ x +ℤ pos (middle k mode)))

-- an index, after those of lower bands
abbrev pub spell_index : Kind → ℕ → ℕ → List ℤ → List ℤ → ℤ → List Piece
spell_index k mode time before done x = spell_word (difference_table k mode time) (entry_to k mode (reference time before done) x)

unfoldable pub spell_row : Kind → ℕ → Record → Row → List Piece
spell_row k mode h r = bit_field r.time 1 ++ spell_each (spell_index k mode r.time h.indices) [] (take (bands k mode) r.indices)

-- the rows of a kind in n envelopes, each after those before it
abbrev pub spell_next : Kind → ℕ → Record → List Row → Row → List Piece
spell_next k mode h done = spell_row k mode (record_after_rows h mode done)

unfoldable pub spell_rows : Kind → Bool → ℕ → Record → ℕ → List Row → List Piece
spell_rows k on mode h n rs = pick on (spell_each (spell_next k mode h) [] (take n rs)) []

-- the extension: phases of n envelopes, v0, its fill bits, its size
abbrev pub spell_phases : ℕ → Record → Record → List Phases → Phases → List Piece
spell_phases mode ipd opd done p =
    spell_row Ipd mode (record_after_rows ipd mode (ipds done)) p.ipd ++ spell_row Opd mode (record_after_rows opd mode (opds done)) p.opd

unfoldable pub spell_all_phases : ℕ → ℕ → Record → Record → ℕ → List Phases → List Piece
spell_all_phases on mode ipd opd n ps = pick (eqb on 1) (spell_each (spell_phases mode ipd opd) [] (take n ps)) []

unfoldable pub spell_body : ℕ → Record → Record → ℕ → Body → List Piece
spell_body mode ipd opd n b = bit_field 0 2 ++ bit_field b.phase 1 ++ spell_all_phases b.phase mode ipd opd n b.phases ++ bit_field 0 1

-- no more than 7 fill bits
unfoldable pub spell_part : ℕ → Record → Record → ℕ → Part → List Piece
spell_part mode ipd opd n p = spell_body mode ipd opd n p.body ++ bit_field p.value (min p.count 7)

unfoldable pub spell_announced : ℕ → Record → Record → ℕ → ℕ → Part → List Piece
spell_announced mode ipd opd n size p = pick (eqb size 0) [] (spell_part mode ipd opd n p)

unfoldable pub spell_sent : ℕ → Record → Record → ℕ → Extension → List Piece
spell_sent mode ipd opd n x =
    bit_field x.size 4 ++ pick (eqb x.size 15) (bit_field x.esc 8) [] ++ spell_announced mode ipd opd n (x.size + x.esc) x.part

unfoldable pub spell_extension : Bool → ℕ → Record → Record → ℕ → Extension → List Piece
spell_extension on mode ipd opd n x = pick on (spell_sent mode ipd opd n x) []

-- the whole, with what is in force after the header
unfoldable pub spelling_in : State → Setup → Contents → List Piece
spelling_in st f c =
    spell_header c.header ++ spell_frame c.frame
    ++ spell_rows Iid f.iid f.iidmode st.iid c.frame.envelopes c.iid
    ++ spell_rows Icc f.icc f.iccmode st.icc c.frame.envelopes c.icc
    ++ spell_extension f.ext f.iidmode st.ipd st.opd c.frame.envelopes c.extension

unfoldable pub spelling : State → Contents → List Piece
spelling st c = spelling_in st (setup_after st.setup c.header) c
