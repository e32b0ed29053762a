-- For contracts of inner functions only: what the scan asks of a table, and what it is lent.
use Rattle.std.specs.Prelude.{ℕ, ◌≤◌, ◌<◌, ◌≡◌, List, [], ◌∷◌, length, get_or}
use Rattle.tables.specs.GeneratedWords.{all_codes, all_lens}

-- as many lengths as words, few of them, and none above 20
pub record Usable (codes lens : List ℕ) : Type 0 where
  pub same : length codes ≡ length lens
  pub few : length lens ≤ 1604
  pub narrow : (i : ℕ) → i < length lens → get_or lens i 0 ≤ 20

-- where each table starts in the lists of all words and all lengths, and where the last ends
unfoldable pub places : List ℕ
places =
    0 ∷ 121 ∷ 202 ∷ 283 ∷ 364 ∷ 445 ∷ 526 ∷ 607 ∷ 671 ∷ 735 ∷ 904 ∷ 1073 ∷ 1362 ∷ 1391 ∷ 1420 ∷ 1481 ∷ 1542 ∷ 1557 ∷ 1572 ∷ 1580 ∷ 1588 ∷
    1596 ∷ 1604 ∷ []

-- all words, all lengths, and these places
abbrev pub Scanned : List ℕ → List ℕ → List ℕ → Type 0
Scanned codes lens at = (codes ≡ all_codes) × (lens ≡ all_lens) × (at ≡ places)
