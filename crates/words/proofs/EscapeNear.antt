-- An escape takes 21 bits at most: eight ones, a zero and twelve bits.
-- Assumes nothing.
use Prim.Native.Nat.{ℕ, zero, suc, ◌+◌, ◌<◌, ◌≤◌}
use native.Mathlib.Omega.{arith}
use lib.Dec.{eqb}
use Rattle.bits.proofs.NearLaws.{Costs, Near, give-costs, refuse-costs, field-costs, one_field-costs, pick-costs, known-costs, bind_costs}
use Rattle.words.specs.Escape.{ones, escape}
use Rattle.words.proofs.EscapeLaws.{ones-few}

-- N ones and a zero
ones-costs : {all : ℕ} (k n : ℕ) → n + k ≤ all → Costs all n (λ v. v + 1) (ones k n)
unfolding ones
ones-costs zero n h = refuse-costs 26
ones-costs (suc k) n h =
    bind_costs (field-costs 1 (omega arith)) λ one.
    pick-costs (eqb one 1) (λ e. ones-costs k (n + 1) (omega arith)) (λ e. give-costs (omega arith))

pub escape-near : Near 21 escape
unfolding escape
escape-near =
    one_field-costs (known-costs (λ n. n < 9) (record { law = λ s at end next n e. ones-few s at end n next e })
    (ones-costs 9 0 (omega arith)) λ n few.
    bind_costs (field-costs (n + 4) (omega arith)) λ v. give-costs (omega arith))
