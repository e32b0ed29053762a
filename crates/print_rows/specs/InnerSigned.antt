-- For contracts of inner functions only: a signed number as text.
use Rattle.std.specs.Prelude.{ℕ, List, [], ◌++◌, ℤ, pos, negsuc, nat_abs}
use Rattle.print_lines.specs.InnerText.{ascii, number_text}

-- a minus before a number below 0
abbrev pub sign_text : ℤ → List ℕ
sign_text (pos n) = []
sign_text (negsuc n) = ascii "-"

unfoldable pub signed_text : ℤ → List ℕ
signed_text z = sign_text z ++ number_text (nat_abs z)
