-- Two results that a promise of a function for C over an ADTS frame allows are equal: what comes back, and each lent buffer afterwards.
-- Assumes nothing.
use Prim.Native.Nat.{ℕ}
use mathlib.Core.Path.{◌≡◌}
use mathlib.Core.List.{List}
use Rattle.channel.specs.Promise.{Outputs}
use Rattle.c_adts.specs.ReadFrame as frame_c
use Rattle.c_adts.specs.UnwrapFrame as unwrap_c
use Rattle.c_adts.specs.WrapStream as wrap_c
use Rattle.promises.proofs.UniqueCalls.{same}

-- the reader: what comes back, the three outputs and the answer
pub one-frame-call : (c : frame_c.Call) (r r' : ℕ) (o o' : Outputs) (a a' : List ℕ) → frame_c.ReadFramePromise c r o a
    → frame_c.ReadFramePromise c r' o' a' → (r ≡ r') × (o ≡ o') × (a ≡ a')
one-frame-call c r r' o o' a a' p q = (same _ p.0 q.0, same _ p.1.0 q.1.0, same _ p.1.1 q.1.1)

-- unwrapping: what comes back, the lent bytes and the answer
pub one-unwrap-call : (c : unwrap_c.Call) (r r' : ℕ) (o o' a a' : List ℕ) → unwrap_c.UnwrapFramePromise c r o a
    → unwrap_c.UnwrapFramePromise c r' o' a' → (r ≡ r') × (o ≡ o') × (a ≡ a')
one-unwrap-call c r r' o o' a a' p q = (same _ p.0 q.0, same _ p.1.0 q.1.0, same _ p.1.1 q.1.1)

-- wrapping: what comes back, the lent bytes and the answer
pub one-wrap-call : (c : wrap_c.Call) (r r' : ℕ) (o o' a a' : List ℕ) → wrap_c.WrapStreamPromise c r o a
    → wrap_c.WrapStreamPromise c r' o' a' → (r ≡ r') × (o ≡ o') × (a ≡ a')
one-wrap-call c r r' o o' a a' p q = (same _ p.0 q.0, same _ p.1.0 q.1.0, same _ p.1.1 q.1.1)
