-- For contracts of inner functions only: fill bits as text.
use Rattle.std.specs.Prelude.{ℕ, min, List, eqb}
use Rattle.bits.specs.Reader.{pick}
use Rattle.io.specs.Digits.{last_digits}
use Rattle.print_lines.specs.InnerText.{ascii}

-- the last count bits of a number, which has no more than 32; a dash where there are none
unfoldable pub fill_text : ℕ → ℕ → List ℕ
fill_text value count = pick (eqb count 0) (ascii "-") (last_digits 2 (min count 32) value)
