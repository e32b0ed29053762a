-- A restart: contents that need nothing of the past.
use Rattle.std.specs.Prelude.{List, Bool, not, ◌&&◌, ◌||◌, eqb, leb, get_or}
use Rattle.stereo_indices.specs.Rows.{no_row}
use Rattle.stereo_indices.specs.declared.Row.{Row}
use Rattle.stereo.specs.Extension.{no_phases}
use Rattle.stereo.specs.declared.Body.{Body}
use Rattle.stereo.specs.declared.Contents.{Contents}

-- the first row of a kind is across frequency
abbrev pub across : List Row → Bool
across rs = eqb (get_or rs 0 no_row).time 0

-- the first rows of the phases, where there are any, are across frequency
unfoldable pub phases_across : Body → Bool
phases_across b = not (eqb b.phase 1) ||
    (eqb (get_or b.phases 0 no_phases).ipd.time 0 && eqb (get_or b.phases 0 no_phases).opd.time 0)

-- a header with IID and ICC on, at least one envelope, and the first of each kind that is there across frequency
unfoldable pub restart : Contents → Bool
restart c =
    eqb c.header.there 1 && eqb c.header.iid 1 && eqb c.header.icc 1 && leb 1 c.frame.envelopes
    && across c.iid && across c.icc && phases_across c.extension.part.body
