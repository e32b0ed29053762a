-- What the bench has computed of a list of words, so that two readings can be held to each other: a sum of their entries and of the places
-- after them.
use Rattle.std.specs.Prelude.{ℕ, zero, suc, ◌+◌, ◌*◌, ◌/◌, ◌%◌, List, leb, ltb, length, get_or}
use Rattle.bits.specs.Reader.{Answer, got, refused, pick}
use Rattle.tables.specs.Tables.{word_of}
use Rattle.tables.specs.GeneratedNames.{table_at}

-- a word that is read adds its entry and the next place; one that is refused adds nothing
abbrev pub added : ℕ → Answer ℕ → ℕ
added sum (got entry next) = (sum % 16777216 + entry % 65536 + next % 65536) % 16777216
added sum (refused n place) = sum

-- a sum with the word at a place, of a table if there is one of that number
unfoldable pub with_word : List ℕ → ℕ → ℕ → ℕ → ℕ → ℕ
with_word s end sum at t = pick (ltb t 22) (added sum (word_of (table_at t) s at end)) sum

-- a sum with n words of a list from the k-th on; a word is two numbers, its place and its table's
unfoldable pub sum_from : List ℕ → ℕ → List ℕ → ℕ → ℕ → ℕ → ℕ
sum_from s end words zero k sum = sum
sum_from s end words (suc n) k sum =
    sum_from s end words n (k + 1) (with_word s end sum (get_or words (2 * k) 0) (get_or words (2 * k + 1) 0))

-- the sum of a list's words, in bytes that end at a bit; 0 where the end is not in them
unfoldable pub words_sum : List ℕ → ℕ → List ℕ → ℕ
words_sum s end words = pick (leb end (8 * length s)) (sum_from s end words (length words / 2) 0 0) 0
