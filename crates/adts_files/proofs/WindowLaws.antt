-- What is read behind some bytes leaves them as they were; and what is enough is enough.
-- Assumes nothing.
use Prim.Native.Nat.{ℕ, ◌≤◌}
use mathlib.Core.Path.{◌≡◌, ◌∙◌}
use mathlib.Core.Bool.{Bool, true, false}
use mathlib.Core.List.{List, ◌++◌}
use native.Mathlib.Omega.{arith}
use lib.ListN.{length, take}
use lib.Seq.{length-take-le, take-append-le, take-take}
use Rattle.adts_files.specs.InnerWindow.{Enough}

-- the first bytes, before a place from which on others were put
pub front-stays : (old rest : List ℕ) (first end : ℕ) → first ≤ end → end ≤ length old → take first (take end old ++ rest) ≡ take first old
front-stays old rest first end h k =
    take-append-le first (take end old) rest (omega (arith, length-take-le end old k)) ∙ take-take first end old h

-- an input that has ended is asked for no more; and what is enough is enough
pub ended-enough : (ended : Bool) (there : ℕ) → ended ≡ true → Enough ended there
ended-enough ended there e = rw e tt

pub many_enough : (ended : Bool) (there : ℕ) → 8191 ≤ there → Enough ended there
many_enough true there h = tt
many_enough false there h = h
