-- For contracts of inner functions only: which half of the tables a reader is lent.
use Rattle.std.specs.Prelude.{ℕ, List, ltb}
use Rattle.bits.specs.Reader.{pick}
use Rattle.tables.specs.InnerGenerated.{channel_lookups, stereo_lookups}

-- the lookups that a reader of a table is lent
unfoldable pub lookups_for : ℕ → List ℕ
lookups_for t = pick (ltb t 12) channel_lookups stereo_lookups
