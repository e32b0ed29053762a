-- The header, and what it puts in force.
use Rattle.std.specs.Prelude.{ℕ, Bool, eqb, leb}
use Rattle.bits.specs.Reader.{Reader, give, pick, expecting, ◌>>=◌}
use Rattle.bits.specs.Field.{field}
use Rattle.stereo.specs.declared.Setup.{Setup}
use Rattle.stereo.specs.declared.Header.{Header}
use Rattle.stereo.specs.declared.Switch.{Switch}

-- no header: nothing is sent
unfoldable pub no_header : Header
no_header = record { there = 0; iid = 0; iidmode = 0; icc = 0; iccmode = 0; ext = 0 }

-- after an enable bit at 1, the mode: 6 and 7 are reserved
unfoldable pub mode : ℕ → Reader ℕ
mode on = pick (eqb on 1) (expecting 13 (λ m. leb m 5) (field 3)) (give 0)

-- an enable bit and its mode
unfoldable pub switch : Reader Switch
switch = do
  on ← field 1
  m ← mode on
  give (record { on = on; mode = m })

-- IID, ICC, and the enable bit of the extension
unfoldable pub header_fields : Reader Header
header_fields = do
  iid ← switch
  icc ← switch
  ext ← field 1
  give (record { there = 1; iid = iid.on; iidmode = iid.mode; icc = icc.on; iccmode = icc.mode; ext = ext })

unfoldable pub header : Reader Header
header = do
  there ← field 1
  pick (eqb there 1) header_fields (give no_header)

-- a flag after a header: the new one, or where there is no header the old one
abbrev pub flag_after : ℕ → ℕ → Bool → Bool
flag_after there new old = pick (eqb there 1) (eqb new 1) old

-- a mode that was not sent is the last one still
abbrev pub mode_after : ℕ → ℕ → ℕ → ℕ
mode_after on new old = pick (eqb on 1) new old

-- what is in force after a header
unfoldable pub setup_after : Setup → Header → Setup
setup_after f h = record {
  iid = flag_after h.there h.iid f.iid;
  icc = flag_after h.there h.icc f.icc;
  ext = flag_after h.there h.ext f.ext;
  iidmode = mode_after h.iid h.iidmode f.iidmode;
  iccmode = mode_after h.icc h.iccmode f.iccmode;
}
