-- For contracts of inner functions only: texts one after another: numbers and indices, and the values of lines with their places.
use Rattle.std.specs.Prelude.{ℕ, ◌+◌, List, [], ◌∷◌, ◌++◌, eqb, ℤ, nat_abs}
use Rattle.bits.specs.Reader.{pick}
use Rattle.print_lines.specs.InnerText.{ascii, line, number_text}
use Rattle.print_rows.specs.InnerSigned.{signed_text}

-- the text of each value, by its place and itself
unfoldable pub each : {A : Type 0} → (ℕ → A → List ℕ) → ℕ → List A → List ℕ
each text place [] = []
each text place (x ∷ xs) = text place x ++ each text (place + 1) xs

-- a number, after a space
unfoldable pub next_number : ℕ → List ℕ
next_number n = ascii " " ++ number_text n

abbrev pub numbers_text : List ℕ → List ℕ
numbers_text ns = each (λ place n. next_number n) 0 ns

-- an index with its sign, after a space
unfoldable pub next_index : ℤ → List ℕ
next_index z = ascii " " ++ signed_text z

abbrev pub indices_text : List ℤ → List ℕ
indices_text zs = each (λ place z. next_index z) 0 zs

-- the place and the value of a line that is not 0
unfoldable pub value_text : ℕ → ℤ → List ℕ
value_text place z = pick (eqb (nat_abs z) 0) [] (line " #:" (place ∷ []) ++ signed_text z)

abbrev pub values_text : List ℤ → List ℕ
values_text zs = each value_text 0 zs
