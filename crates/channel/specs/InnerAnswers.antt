-- For contracts of inner functions only: what answers with lent arrays mean.
use Rattle.std.specs.Prelude.{ℕ, ◌≡◌, List, ℤ, Result, Ok, Err}
use Rattle.bits.specs.Reader.{Answer, got, refused}
use Rattle.bits.specs.declared.Refusal.{Refusal}
use Rattle.channel.specs.Stream.{Head, Coded, Stream}

-- the lines of a spectrum that was read are these; or it was refused
abbrev pub HoldsLines : Result ℕ Refusal → List ℤ → Answer Coded → Type 0
HoldsLines (Ok next) lines x = (c : Coded) × (c.lines ≡ lines) × (x ≡ got c next)
HoldsLines (Err e) lines x = x ≡ refused e.number e.place

-- a stream that was read has this head, and these books, scale factors and lines; or it was refused
abbrev pub HoldsStream : Result (Head × ℕ) Refusal → List ℕ → List ℕ → List ℤ → Answer Stream → Type 0
HoldsStream (Ok r) books factors lines x =
    (c : Coded) × (c.lines ≡ lines) × (x ≡ got (record { head = r.0; books = books; factors = factors; coded = c }) r.1)
HoldsStream (Err e) books factors lines x = x ≡ refused e.number e.place

-- the same of the rest of a stream, after its head
abbrev pub HoldsRest : Result ℕ Refusal → Head → List ℕ → List ℕ → List ℤ → Answer Stream → Type 0
HoldsRest (Ok next) head books factors lines x = HoldsStream (Ok (head, next)) books factors lines x
HoldsRest (Err e) head books factors lines x = HoldsStream (Err e) books factors lines x
