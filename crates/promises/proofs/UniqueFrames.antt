-- Two results that a promise about ADTS frames allows are equal: the formula of each contract settles everything that the function gives.
-- Assumes nothing.
use Prim.Native.Nat.{ℕ}
use mathlib.Core.Path.{◌≡◌, sym, ◌∙◌}
use mathlib.Core.List.{List}
use Rattle.channel.specs.Promise.{Outputs}
use Rattle.adts.specs.Promise.{FrameCall, ReadFramePromise, UnwrapPromise, WrapCall, WrapPromise}
use Rattle.adts.specs.declared.Framed.{Framed}
use Rattle.adts.specs.declared.Wrapped.{Wrapped}

-- the answer, and the lent outputs afterwards
pub one-frame : (c : FrameCall) (r r' : Framed) (o o' : Outputs) → ReadFramePromise c r o → ReadFramePromise c r' o' → (r ≡ r') × (o ≡ o')
one-frame c r r' o o' p q = (p.0 ∙ sym q.0, p.1 ∙ sym q.1)

-- the answer, and the lent bytes afterwards
pub one_unwrapping : (file : List ℕ) (start : ℕ) (out : List ℕ) (r r' : Framed) (after after' : List ℕ)
    → UnwrapPromise file start out r after → UnwrapPromise file start out r' after' → (r ≡ r') × (after ≡ after')
one_unwrapping file start out r r' after after' p q = (p.0 ∙ sym q.0, p.1 ∙ sym q.1)

pub one-wrapping : (c : WrapCall) (r r' : Wrapped) (after after' : List ℕ) → WrapPromise c r after → WrapPromise c r' after'
    → (r ≡ r') × (after ≡ after')
one-wrapping c r r' after after' p q = (p.0 ∙ sym q.0, p.1 ∙ sym q.1)
