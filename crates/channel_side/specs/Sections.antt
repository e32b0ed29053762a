-- The sections: the book of each band, at group times max_sfb plus band.
use Rattle.std.specs.Prelude.{ℕ, zero, suc, ◌+◌, ◌-◌, ◌^◌, List, [], ◌∷◌, Bool, true, ◌&&◌, eqb, leb, ltb, set, replicate}
use Rattle.bits.specs.Reader.{Reader, give, pick, ◌>>=◌, expecting}
use Rattle.bits.specs.Field.{field}
use Rattle.bits.specs.Loop.{while}
use Rattle.channel_side.specs.Window.{Window, is_short, max_sfb, groups}

-- the bands that a section has so far, and whether an increment follows
pub record Length : Type 0 where
  pub bands : ℕ
  pub goes_on : Bool

-- an increment of so many bits; all ones go on. A length of 0, and one past the room, are 22
unfoldable pub increment : ℕ → ℕ → Length → Reader Length
increment width room x = do
  v ← expecting 22 (λ v. ltb 0 (x.bands + v) && leb (x.bands + v) room) (field width)
  give (record { bands = x.bands + v; goes_on = eqb (v + 1) (2 ^ width) })

-- the length of a section that has room for so many bands
unfoldable pub section_length : ℕ → ℕ → Reader ℕ
section_length width room = do
  x ← while (λ x. x.goes_on) (increment width room) (record { bands = 0; goes_on = true })
  give x.bands

-- the book of a section; 12 to 15 are 23
unfoldable pub section_book : Reader ℕ
section_book = expecting 23 (λ b. leb b 11) (field 4)

-- n copies of a book, from place i on
unfoldable pub fill : List ℕ → ℕ → ℕ → ℕ → List ℕ
fill books i zero book = books
fill books i (suc n) book = fill (set books i book) (i + 1) n book

-- the bands of a group that are covered, and the books of all
pub record Covered : Type 0 where
  pub count : ℕ
  pub books : List ℕ

-- a section of a group whose bands start at a base: the book, then the length
unfoldable pub section : ℕ → ℕ → ℕ → Covered → Reader Covered
section width max_sfb base x = do
  book ← section_book
  n ← section_length width (max_sfb - x.count)
  give (record { count = x.count + n; books = fill x.books (base + x.count) n book })

-- the sections of a group, until max_sfb is covered
unfoldable pub group_sections : ℕ → ℕ → ℕ → List ℕ → Reader (List ℕ)
group_sections width max_sfb base books = do
  x ← while (λ x. ltb x.count max_sfb) (section width max_sfb base) (record { count = 0; books = books })
  give x.books

-- the bits of an increment: 5, or 3 where windows are short
unfoldable pub width_of : Bool → ℕ
width_of short = pick short 3 5

-- the sections of each group, whose books start at a base
unfoldable pub group_books : ℕ → ℕ → List ℕ → ℕ → List ℕ → Reader (List ℕ)
group_books width max_sfb [] base books = give books
group_books width max_sfb (n ∷ ns) base books = group_sections width max_sfb base books >>= group_books width max_sfb ns (base + max_sfb)

-- the books of all bands, 0 where unused
unfoldable pub sections : Window → Reader (List ℕ)
sections w = group_books (width_of (is_short w)) (max_sfb w) (groups w) 0 (replicate 120 0)
