-- After each turn the runs of so many envelopes make one run.
-- Assumes nothing.
use Prim.Native.Nat.{◌*◌}
use Rattle.c_layout.specs.ContentsBytes.{envelopes_bytes}
use Rattle.bits.proofs.OverLaws.{Put}
use Rattle.c_layout.proofs.answers.put_envelopes.Given as goal

abbrev pub invariant-loop-e : goal.invariant-loop-e
invariant-loop-e l =
    Put l.initial.out 22 (envelopes_bytes l.iid l.icc l.phases l.e) (140 * l.e) l.out
