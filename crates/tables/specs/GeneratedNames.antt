-- The 22 tables by name: the first entry of each, and how many there are. Written by tools/tables.
use Rattle.std.specs.Prelude.{ℕ, List, [], ◌∷◌, get_or}
use Rattle.tables.specs.Tables.{Table, table}

abbrev pub scale_factor : Table
scale_factor = table 0 121

abbrev pub book1 : Table
book1 = table 121 81

abbrev pub book2 : Table
book2 = table 202 81

abbrev pub book3 : Table
book3 = table 283 81

abbrev pub book4 : Table
book4 = table 364 81

abbrev pub book5 : Table
book5 = table 445 81

abbrev pub book6 : Table
book6 = table 526 81

abbrev pub book7 : Table
book7 = table 607 64

abbrev pub book8 : Table
book8 = table 671 64

abbrev pub book9 : Table
book9 = table 735 169

abbrev pub book10 : Table
book10 = table 904 169

abbrev pub book11 : Table
book11 = table 1073 289

abbrev pub level_default_frequency : Table
level_default_frequency = table 1362 29

abbrev pub level_default_time : Table
level_default_time = table 1391 29

abbrev pub level_fine_frequency : Table
level_fine_frequency = table 1420 61

abbrev pub level_fine_time : Table
level_fine_time = table 1481 61

abbrev pub coherence_frequency : Table
coherence_frequency = table 1542 15

abbrev pub coherence_time : Table
coherence_time = table 1557 15

abbrev pub phase_frequency : Table
phase_frequency = table 1572 8

abbrev pub phase_time : Table
phase_time = table 1580 8

abbrev pub overall_phase_frequency : Table
overall_phase_frequency = table 1588 8

abbrev pub overall_phase_time : Table
overall_phase_time = table 1596 8

-- all of them; the book of a number from 1 to 11 stands at that number
abbrev pub tables : List Table
tables =
    scale_factor ∷ book1 ∷ book2 ∷ book3 ∷ book4 ∷ book5 ∷ book6 ∷ book7 ∷ book8 ∷ book9 ∷ book10 ∷ book11 ∷
    level_default_frequency ∷ level_default_time ∷ level_fine_frequency ∷ level_fine_time ∷ coherence_frequency ∷ coherence_time ∷
    phase_frequency ∷ phase_time ∷ overall_phase_frequency ∷ overall_phase_time ∷ []

-- no words at all
abbrev pub no_table : Table
no_table = table 0 0

-- the table of a number; past the last, one without words
abbrev pub table_at : ℕ → Table
table_at i = get_or tables i no_table
