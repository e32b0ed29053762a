-- Two results that a promise allows are equal: the formula of each contract settles everything that the function gives.
-- Assumes nothing.
use Prim.Native.Nat.{ℕ}
use mathlib.Core.Path.{◌≡◌, sym, ◌∙◌, ap}
use mathlib.Core.List.{List}
use mathlib.Core.Bool.{Bool}
use denote.Ref.{Bor}
use Rattle.bits.specs.Payload.{Range}
use Rattle.image.specs.Image.{HeaderPromise, PartPromise}
use Rattle.image.specs.declared.Header.{Header}
use Rattle.image.specs.declared.Part.{Part}
use Rattle.bit_reader.specs.Took.{HoldPromise, TookAtPromise, TakePromise}
use Rattle.bit_reader.specs.declared.Took.{Took}
use Rattle.bit_reader.specs.declared.BitReader.{BitReader}
use Rattle.stereo.specs.State.{FreshPromise, SoundPromise}
use Rattle.stereo_reader.specs.Reading.{ReadPromise, MissingPromise}
use Rattle.stereo.specs.declared.State.{State}
use Rattle.stereo.specs.declared.Contents.{Contents}
use Rattle.stereo_reader.specs.declared.Reading.{Reading}
use Rattle.stereo_reader.specs.declared.Report.{Report}
use Rattle.stereo_writer.specs.Writing.{written_over, WritePromise}
use Rattle.stereo_writer.specs.declared.Written.{Written}
use Rattle.stereo_lent.specs.Lent.{LentReadPromise, LentMissingPromise}
use Rattle.stereo_lent.specs.declared.Answer.{Answer}

module _ (st : State) where
  pub one-fresh : (r r' : State) → FreshPromise r → FreshPromise r' → r ≡ r'
  one-fresh r r' p q = p ∙ sym q

  pub one-verdict : (r r' : Bool) → SoundPromise st r → SoundPromise st r' → r ≡ r'
  one-verdict r r' p q = p ∙ sym q

  pub one-report : (r r' : Report) → MissingPromise st r → MissingPromise st r' → r ≡ r'
  one-report r r' p q = p ∙ sym q

  pub one-reading : (p : Range) (r r' : Reading) → ReadPromise st p r → ReadPromise st p r' → r ≡ r'
  one-reading p r r' a b = a ∙ sym b

  -- the answer, and the lent buffer afterwards
  pub one-writing : (c : Contents) (before after after' : List ℕ) (r r' : Written) → WritePromise before st c r after
      → WritePromise before st c r' after' → (r ≡ r') × (after ≡ after')
  one-writing c before after after' r r' p q =
      let e = p.0 ∙ sym q.0 in
      (e, p.1 ∙ ap (λ (w : Written). written_over w st c before) e ∙ sym q.1)

  -- the answer, and the lent state afterwards
  pub one-lent-reading : (p : Range) (r r' : Answer) (after after' : State) → LentReadPromise st p r after → LentReadPromise st p r' after'
      → (r ≡ r') × (after ≡ after')
  one-lent-reading p r r' after after' a b = (a.0 ∙ sym b.0, a.1 ∙ sym b.1)

  pub one-lent-report : (r r' : ℕ) (after after' : State) → LentMissingPromise st r after → LentMissingPromise st r' after'
      → (r ≡ r') × (after ≡ after')
  one-lent-report r r' after after' p q = (p.0 ∙ sym q.0, p.1 ∙ sym q.1)

-- of a tag image
pub one-header : (image : List ℕ) (r r' : Header) → HeaderPromise image r → HeaderPromise image r' → r ≡ r'
one-header image r r' p q = p ∙ sym q

pub one-part : (image : List ℕ) (k : ℕ) (r r' : Part) → PartPromise image k r → PartPromise image k r' → r ≡ r'
one-part image k r r' p q = p.0 ∙ sym q.0

-- of a field of the bit reader: what was taken
pub one_field : (bytes : List ℕ) (at n : ℕ) (t t' : Took) → TookAtPromise bytes at n t → TookAtPromise bytes at n t' → t ≡ t'
one_field bytes at n t t' p q = p ∙ sym q

-- of the bit reader itself: the slice, which is the one that was passed, and the place
pub one_bit-reader : (src : Bor (List ℕ)) (r r' : BitReader) → HoldPromise src r → HoldPromise src r' → r ≡ r'
one_bit-reader src r r' p q =
    let e = p.0 ∙ sym q.0 in
    let f = p.1 ∙ sym q.1 in
    λ i. record { src = e i; at = f i }

-- of the next field: what was taken, and the reader afterwards
pub one_taking : (before : BitReader) (n : ℕ) (t t' : Took) (after after' : BitReader) → TakePromise before n t after
    → TakePromise before n t' after' → (t ≡ t') × (after ≡ after')
one_taking before n t t' after after' p q =
    let e = p.0 ∙ sym q.0 in
    let f = p.1 ∙ sym q.1 in
    let g = p.2 ∙ ap (λ (t : Took). t.next) e ∙ sym q.2 in
    (e, λ i. record { src = f i; at = g i })
