-- The extension: phases inside an announced part.
use Rattle.std.specs.Prelude.{ℕ, ◌+◌, ◌*◌, List, [], ◌∷◌, Bool, ◌||◌, eqb, replicate}
use Rattle.bits.specs.Reader.{Reader, give, pick, expecting, ◌>>=◌}
use Rattle.bits.specs.Field.{field, zero_bit}
use Rattle.bits.specs.Loop.{listed}
use Rattle.bits.specs.Places.{here, refuse_at}
use Rattle.bits.specs.Inside.{inside, Fill, left_over}
use Rattle.bits.specs.Lists.{padded}
use Rattle.stereo_indices.specs.Rows.{no_row, record_after_rows, row}
use Rattle.stereo_indices.specs.declared.Kind.TheVariants.{Ipd, Opd}
use Rattle.stereo_indices.specs.declared.Record.{Record}
use Rattle.stereo_indices.specs.declared.Row.{Row}
use Rattle.stereo.specs.State.{is_sent}
use Rattle.stereo.specs.declared.Phases.{Phases}
use Rattle.stereo.specs.declared.Body.{Body}
use Rattle.stereo.specs.declared.Part.{Part}
use Rattle.stereo.specs.declared.Extension.{Extension}

-- what is not sent is 0
unfoldable pub no_phases : Phases
no_phases = record { ipd = no_row; opd = no_row }

unfoldable pub no_body : Body
no_body = record { phase = 0; phases = replicate 4 no_phases }

unfoldable pub no_part : Part
no_part = record { body = no_body; count = 0; value = 0 }

unfoldable pub no_extension : Extension
no_extension = record { there = 0; size = 0; esc = 0; part = no_part }

-- the IPD rows of some envelopes, and the OPD rows
abbrev pub ipds : List Phases → List Row
ipds [] = []
ipds (p ∷ ps) = p.ipd ∷ ipds ps

abbrev pub opds : List Phases → List Row
opds [] = []
opds (p ∷ ps) = p.opd ∷ opds ps

-- the phases of one envelope, after two records
unfoldable pub phases_in : ℕ → Record → Record → Reader Phases
phases_in mode ipd opd = do
  a ← row Ipd mode ipd
  b ← row Opd mode opd
  give (record { ipd = a; opd = b })

-- the phases of the next envelope
abbrev pub phases_next : ℕ → Record → Record → List Phases → Reader Phases
phases_next mode ipd opd ps = phases_in mode (record_after_rows ipd mode (ipds ps)) (record_after_rows opd mode (opds ps))

-- the phases of n envelopes
unfoldable pub phases_of : ℕ → Record → Record → ℕ → Reader (List Phases)
phases_of mode ipd opd n = do
  ps ← listed n (phases_next mode ipd opd)
  give (padded 4 no_phases ps)

-- where enable_ipdopd is 0 there are none
unfoldable pub phases : ℕ → ℕ → Record → Record → ℕ → Reader (List Phases)
phases on mode ipd opd n = pick (eqb on 1) (phases_of mode ipd opd n) (give (replicate 4 no_phases))

-- enable_ipdopd at 1 asks for an IID mode
abbrev pub has_mode : ℕ → ℕ → Bool
has_mode mode on = eqb on 0 || is_sent mode

-- an id, of which only 0 is used, and enable_ipdopd, which is judged at once
unfoldable pub phase_flag : ℕ → Reader ℕ
phase_flag mode = do
  id ← expecting 13 (λ v. eqb v 0) (field 2)
  expecting 34 (has_mode mode) (field 1)

-- the flag, the phases in the IID mode in force, and reserved_ps
unfoldable pub v0 : ℕ → Record → Record → ℕ → Reader Body
v0 mode ipd opd n = do
  phase ← phase_flag mode
  ps ← phases phase mode ipd opd n
  reserved ← zero_bit 13
  give (record { phase = phase; phases = ps })

-- more than 7 bits left after v0: another id, a second v0 or one that is reserved
unfoldable pub another : Reader Fill
another = do
  place ← here
  id ← field 2
  refuse_at (pick (eqb id 0) 33 13) place

-- v0, and up to 7 fill bits
unfoldable pub part : ℕ → Record → Record → ℕ → Reader Part
part mode ipd opd n = do
  b ← v0 mode ipd opd n
  fill ← left_over 7 another
  give (record { body = b; count = fill.count; value = fill.value })

-- an announced size of 0 holds no v0
unfoldable pub announced : ℕ → Record → Record → ℕ → ℕ → Reader Part
announced mode ipd opd n size = pick (eqb size 0) (give no_part) (inside (8 * size) 33 (part mode ipd opd n))

-- esc_count follows a size of 15
unfoldable pub esc_count : ℕ → Reader ℕ
esc_count size = pick (eqb size 15) (field 8) (give 0)

-- the size, esc_count, and the part that they announce
unfoldable pub extension_sent : ℕ → Record → Record → ℕ → Reader Extension
extension_sent mode ipd opd n = do
  size ← field 4
  esc ← esc_count size
  p ← announced mode ipd opd n (size + esc)
  give (record { there = 1; size = size; esc = esc; part = p })

unfoldable pub extension : Bool → ℕ → Record → Record → ℕ → Reader Extension
extension on mode ipd opd n = pick on (extension_sent mode ipd opd n) (give no_extension)
