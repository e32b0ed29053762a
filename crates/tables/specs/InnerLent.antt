-- For contracts of inner functions only: what is lent of the tables, in one list: the tables of channel streams are 0 to 11, those of
-- stereo payloads 12 to 21. A list in parts begins with the places where each part starts, and where the last ends.
use Rattle.std.specs.Prelude.{ℕ, suc, ◌-◌, ◌≤◌, ◌^◌, List, ◌≡◌, ltb, length, get_or}
use Rattle.bits.specs.Reader.{pick}
use Rattle.tables.specs.InnerGenerated.{channel_lookups, stereo_lookups, stereo_words}
unfoldable pub use Rattle.tables.specs.InnerHalf.{lookups_for}
use Rattle.tables.specs.Tables.{run}
use Rattle.tables.specs.declared.Lookup.{Lookup}

-- which part of them is the table's
abbrev pub part_of : ℕ → ℕ
part_of t = pick (ltb t 12) t (t - 12)

-- how many bits choose the first element
abbrev pub first_bits : ℕ → ℕ
first_bits t = pick (ltb t 12) 7 6

-- where the lookup of a table stands
unfoldable pub lookup_at : ℕ → Lookup
lookup_at t = record {
  first = get_or (lookups_for t) (part_of t) 0;
  last = get_or (lookups_for t) (suc (part_of t)) 0;
  bits = first_bits t;
}

-- the elements of a lookup
abbrev pub elements : List ℕ → Lookup → List ℕ
elements lookups l = run lookups l.first (l.last - l.first)

-- a lookup that lies in what is lent, and has its first elements
abbrev pub Lies : List ℕ → Lookup → Type 0
Lies lookups l = (l.first ≤ l.last) × (l.last ≤ length lookups) × (l.bits ≤ 20) × (2 ^ l.bits ≤ l.last - l.first)

-- what a reader of channel streams is lent, a reader of stereo payloads, and a writer of these
abbrev pub ChannelTables : List ℕ → Type 0
ChannelTables lookups = lookups ≡ channel_lookups

abbrev pub StereoTables : List ℕ → Type 0
StereoTables lookups = lookups ≡ stereo_lookups

abbrev pub StereoWords : List ℕ → Type 0
StereoWords words = words ≡ stereo_words
