-- A payload of the stream file with four envelopes, variable borders, phases and fill bits, whose numbers two decoders agree on, computed.
-- Assumes nothing.
use Prim.Native.Nat.{ℕ}
use mathlib.Core.Path.{◌≡◌, refl}
use mathlib.Core.List.{List, [], ◌∷◌}
use lib.IntN.{pos, negsuc}
use lib.ListN.{get_or}
use Rattle.bits.specs.Lists.{padded}
use Rattle.bits.specs.Payload.{range_in}
use Rattle.stereo_indices.specs.Rows.{no_row}
use Rattle.stereo.specs.State.{fresh}
use Rattle.stereo.specs.Extension.{no_phases}
use Rattle.stereo_reader.specs.Reading.{read_from}
use Rattle.stereo_reader.specs.declared.Reading.{Reading}
use Rattle.stereo_reader.proofs.All.{all}

abbrev bytes : List ℕ
bytes =
    197 ∷ 122 ∷ 153 ∷ 140 ∷ 127 ∷ 239 ∷ 251 ∷ 254 ∷ 255 ∷ 239 ∷ 255 ∷ 223 ∷ 255 ∷ 191 ∷ 239 ∷ 239 ∷ 191 ∷ 159 ∷ 228 ∷ 194 ∷ 108 ∷ 63 ∷
    239 ∷ 255 ∷ 191 ∷ 253 ∷ 207 ∷ 254 ∷ 127 ∷ 254 ∷ 182 ∷ 127 ∷ 255 ∷ 191 ∷ 255 ∷ 95 ∷ 247 ∷ 255 ∷ 253 ∷ 95 ∷ 127 ∷ 255 ∷ 189 ∷ 251
    ∷ 223 ∷ 255 ∷ 241 ∷ 207 ∷ 235 ∷ 118 ∷ 61 ∷ 230 ∷ 70 ∷ 22 ∷ 228 ∷ 114 ∷ 243 ∷ 206 ∷ 127 ∷ 115 ∷ 222 ∷ 51 ∷ 173 ∷ 116 ∷ 243 ∷
    199 ∷ 152 ∷ 0 ∷ 127 ∷ 248 ∷ 0 ∷ 61 ∷ 228 ∷ 232 ∷ 96 ∷ 32 ∷ 238 ∷ 191 ∷ 251 ∷ 239 ∷ 239 ∷ 251 ∷ 127 ∷ 159 ∷ 255 ∷ 223 ∷
    251 ∷ 255 ∷ 191 ∷ 223 ∷ 255 ∷ 255 ∷ 251 ∷ 255 ∷ 157 ∷ 243 ∷ 254 ∷ 218 ∷ 127 ∷ 126 ∷ 125 ∷ 175 ∷ 222 ∷ 10 ∷ 68 ∷ 128
    ∷ 216 ∷ 143 ∷ 115 ∷ 72 ∷ 170 ∷ 106 ∷ 84 ∷ 125 ∷ 140 ∷ 172 ∷ 167 ∷ 68 ∷ 34 ∷ 17 ∷ 5 ∷ 114 ∷ 68 ∷ 34 ∷ []

abbrev reading : Reading
reading = read_from fresh (range_in bytes 0 124)

-- the refusal, the bits, the envelopes, the extension's size, esc_count, its phase flag, and how many fill bits
abbrev numbers : Reading → List ℕ
numbers r =
    r.number ∷ r.bits ∷ r.contents.frame.envelopes ∷ r.contents.extension.size ∷ r.contents.extension.esc
    ∷ r.contents.extension.part.body.phase ∷ r.contents.extension.part.count ∷ []

pub made_25 : (numbers reading ≡ 0 ∷ 991 ∷ 4 ∷ 15 ∷ 5 ∷ 1 ∷ 3 ∷ [])
    × (reading.contents.frame.borders ≡ 10 ∷ 12 ∷ 24 ∷ 24 ∷ [])
    × ((get_or reading.contents.iid 3 no_row).indices
    ≡ padded 34 (pos 0) (negsuc 2 ∷ negsuc 4 ∷ negsuc 4 ∷ negsuc 4 ∷ negsuc 5 ∷ negsuc 3 ∷ negsuc 3 ∷ negsuc 3 ∷ negsuc 4 ∷ negsuc 6
    ∷ []))
    × ((get_or reading.contents.icc 3 no_row).indices
    ≡ pos 2 ∷ pos 4 ∷ pos 5 ∷ pos 0 ∷ pos 3 ∷ pos 7 ∷ pos 3 ∷ pos 2 ∷ pos 7 ∷ pos 7 ∷ pos 0 ∷ pos 1 ∷ pos 7 ∷ pos 2 ∷ pos 7 ∷ pos 0
    ∷ pos 7 ∷ pos 2 ∷ pos 2 ∷ pos 4 ∷ pos 7 ∷ pos 7 ∷ pos 3 ∷ pos 2 ∷ pos 1 ∷ pos 2 ∷ pos 2 ∷ pos 6 ∷ pos 3 ∷ pos 3 ∷ pos 6 ∷
    pos 5 ∷ pos 6 ∷ pos 3 ∷ [])
    × ((get_or reading.contents.extension.part.body.phases 3 no_phases).ipd.indices
    ≡ padded 34 (pos 0) (pos 6 ∷ pos 5 ∷ pos 2 ∷ pos 1 ∷ pos 5 ∷ []))
    × ((get_or reading.contents.extension.part.body.phases 3 no_phases).opd.indices
    ≡ padded 34 (pos 0) (pos 7 ∷ pos 5 ∷ pos 0 ∷ pos 5 ∷ pos 6 ∷ []))
unfolding all
made_25 = (refl, refl, refl, refl, refl, refl)
