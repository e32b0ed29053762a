-- For contracts of inner functions only: the rows of a dump under a channel stream's line.
use Rattle.std.specs.Prelude.{ℕ, ◌*◌, List, [], ◌∷◌, ◌++◌, ℤ, take}
use Rattle.channel.specs.declared.Reading.{Reading}
use Rattle.print_lines.specs.InnerText.{ascii, line}
use Rattle.print_rows.specs.InnerEach.{numbers_text, values_text}

-- the windows of each group
unfoldable pub window_row : Reading → List ℕ
window_row r =
    line "  window # shape # max_sfb # groups" (r.sequence ∷ r.shape ∷ r.max_sfb ∷ [])
    ++ numbers_text (take r.group_count r.groups)

-- books and scale factors are so many bands in each group
abbrev pub band_count : Reading → ℕ
band_count r = r.group_count * r.max_sfb

unfoldable pub bands_row : List ℕ → Reading → List ℕ → List ℕ
bands_row words r bands = words ++ numbers_text (take (band_count r) bands)

abbrev pub books_row : Reading → List ℕ → List ℕ
books_row r books = bands_row (ascii "  books") r books

abbrev pub factors_row : Reading → List ℕ → List ℕ
factors_row r factors = bands_row (ascii "  factors") r factors

unfoldable pub values_row : List ℤ → List ℕ
values_row lines = ascii "  values" ++ values_text lines
