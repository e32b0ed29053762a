-- The bytes that are copied are the first ones afterwards.
-- Assumes nothing.
use Prim.Native.Nat.{ℕ, ◌+◌, ◌-◌}
use mathlib.Core.Path.{◌≡◌, subst}
use native.Mathlib.Nat.{zero-add}
use native.Mathlib.Omega.{arith}
use lib.ListN.{take, drop, length-drop}
use lib.Seq.{paste, take-paste}
use Rattle.adts_files.proofs.window.move_front.Goals as goal

pub returns : goal.returns
returns c =
    let s = c.args.buffer.now in
    let start = c.args.start in
    let n = c.args.end - start in
    let copied = paste s 0 (drop start s) n in
    let front : take (0 + n) copied ≡ take n (drop start s) =
    take-paste s 0 (drop start s) n (omega arith) (simp length-drop (omega arith)) in
    rw c.copy_within.ensures.after (subst (λ (k : ℕ). take k copied ≡ take n (drop start s)) (zero-add n) front)
