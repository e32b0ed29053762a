-- For contracts of inner functions only: what the code's answers mean.
use Rattle.std.specs.Prelude.{ℕ}
use Rattle.std.specs.Prelude.{Result, Ok, Err}
use Rattle.bits.specs.Reader.{Answer, got, refused, Reader}
use Rattle.bits.specs.declared.source.Bits.{Bits}
use Rattle.bits.specs.declared.Refusal.{Refusal}

-- a value and the next place, or a refusal
abbrev pub answer_of : {A : Type 0} → Result (A × ℕ) Refusal → Answer A
answer_of (Ok r) = got r.0 r.1
answer_of (Err e) = refused e.number e.place

-- a reading into a lent array, with the value that the array then stands for
abbrev pub ended_answer : {A : Type 0} → Result ℕ Refusal → A → Answer A
ended_answer (Ok next) a = got a next
ended_answer (Err e) a = refused e.number e.place

-- what a reader answers at a place among the bits
abbrev pub reads : {A : Type 0} → Reader A → Bits → ℕ → Answer A
reads r s at = r s.bytes.now at s.end
