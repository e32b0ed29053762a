-- The lines, in window order: within a group they are sent by band, then window, then line.
use Rattle.std.specs.Prelude.{ℕ, ◌+◌, ◌*◌, ◌/◌, List, [], ◌∷◌, get_or, replicate, ℤ, pos}
use Rattle.bits.specs.Reader.{Reader, give, pick, ◌>>=◌}
use Rattle.bits.specs.Loop.{counted}
use Rattle.channel_bands.specs.Bands.{first_line, band_width}
use Rattle.channel_words.specs.Books.{Book, is_silent, book_of}
use Rattle.channel_words.specs.Tuple.{tuple, put}

-- the t-th word of a band that starts at a line
unfoldable pub band_word : Book → ℕ → ℕ → List ℤ → Reader (List ℤ)
band_word b first t lines = do
  vs ← tuple b
  give (put lines (first + t * b.dim) b.dim vs)

-- the lines of a band, of which it has so many; a silent book sends none
unfoldable pub band : Book → ℕ → ℕ → List ℤ → Reader (List ℤ)
band b first width lines = pick (is_silent b) (give lines) (counted 0 (width / b.dim) (band_word b first) lines)

-- a band of a book's number, in a window that has 128 lines
abbrev pub window_band : ℕ → ℕ → ℕ → ℕ → List ℤ → Reader (List ℤ)
window_band number first width v = band (book_of number) (128 * v + first) width

-- a band of a book's number, in each of the n windows from a window on
unfoldable pub windows_band : ℕ → ℕ → ℕ → ℕ → ℕ → List ℤ → Reader (List ℤ)
windows_band number first width from n = counted from n (window_band number first width)

-- a band of a group of n windows, whose books start at a base
unfoldable pub group_band : List ℕ → List ℕ → ℕ → ℕ → ℕ → ℕ → List ℤ → Reader (List ℤ)
group_band edges books base from n b = windows_band (get_or books (base + b) 0) (first_line edges b) (band_width edges b) from n

-- the lines of groups of so many windows each; the first group starts at a window, and its books at a base
unfoldable pub group_lines : List ℕ → ℕ → List ℕ → List ℕ → ℕ → ℕ → List ℤ → Reader (List ℤ)
group_lines edges max_sfb books [] base from lines = give lines
group_lines edges max_sfb books (n ∷ ns) base from lines =
    counted 0 max_sfb (group_band edges books base from n) lines >>= group_lines edges max_sfb books ns (base + max_sfb) (from + n)

-- all lines, by the bands, max_sfb, the books and the groups; from max_sfb up they are 0
unfoldable pub spectrum : List ℕ → ℕ → List ℕ → List ℕ → Reader (List ℤ)
spectrum edges max_sfb books groups = group_lines edges max_sfb books groups 0 0 (replicate 1024 (pos 0))
