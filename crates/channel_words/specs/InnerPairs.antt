-- For contracts of inner functions only: two numbers with a sign bit each, as the values of a word.
use Rattle.std.specs.Prelude.{ℕ, ◌≤◌, List, [], ◌∷◌, ℤ, pos, Result, Ok, Err}
use Rattle.bits.specs.Reader.{Answer, got, refused}
use Rattle.bits.specs.declared.Refusal.{Refusal}
use Rattle.channel_words.specs.declared.pairs.Pair.{Pair}
use Rattle.channel_words.specs.Tuple.{signed}

abbrev pub pair_values : Pair → List ℤ
pair_values p = signed p.first p.first_sign ∷ signed p.second p.second_sign ∷ pos 0 ∷ pos 0 ∷ []

-- the values and the next place, or a refusal
abbrev pub pair_answer : Result (Pair × ℕ) Refusal → Answer (List ℤ)
pair_answer (Ok r) = got (pair_values r.0) r.1
pair_answer (Err e) = refused e.number e.place

-- a number is 16 at most
abbrev pub PairFits : Pair → Type 0
PairFits p = (p.first ≤ 16) × (p.second ≤ 16)
