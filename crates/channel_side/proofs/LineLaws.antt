-- A line and a pulse in 32 bits: nothing is lost.
-- Assumes nothing.
use Prim.Native.Nat.{ℕ, ◌+◌, ◌-◌, ◌<◌, ◌≤◌}
use mathlib.Core.Path.{◌≡◌, sym}
use native.Mathlib.Omega.{arith}
use lib.IntN.{ℤ, pos, negsuc, neg_ℤ, ◌+ℤ◌, ◌-ℤ◌, nat_abs}
use mir.Syntax.{w16, w32}
use mir.Val.{SFits, to_z, of_z}
use mir.ValLaws.{to_z-of_z, to_z_pos}
use mathlib.Core.List.{List}
use lib.ListN.{get_or}
use Rattle.bits.specs.Reader.{Answer}
use Rattle.bits.specs.Loop.{counted}
use Rattle.bits.proofs.LoopLaws.{counted_start}
use Rattle.channel_side.specs.Pulses.{Pulses, pulsed, changed, apply_pulse, apply_pulses}
use Rattle.bits.proofs.Signed.{fits, abs_add, abs_neg, widened}

abs_fits : (z : ℤ) → SFits w16 z → nat_abs z ≤ 32768
abs_fits (pos n) f = let h = f.sfits in omega arith
abs_fits (negsuc n) f = let h = f.sfits in omega arith

pub wide_fits : (z : ℤ) → SFits w16 z → SFits w32 (to_z w16 (of_z w16 z))
wide_fits z f = rw (to_z-of_z w16 z f) (fits 32768 (abs_fits z f) (omega arith))

pub wide_is : (z : ℤ) → SFits w16 z → to_z w32 (of_z w32 (to_z w16 (of_z w16 z))) ≡ z
wide_is z f = widened w16 w32 32768 z f (abs_fits z f) (omega arith)

module _ (z : ℤ) (a : ℕ) (f : SFits w16 z) (h : a < 256) where
  sum-small : SFits w32 (z +ℤ pos a)
  sum-small = fits (32768 + 256) (abs_add z (pos a) 32768 256 (abs_fits z f) (omega arith)) (omega arith)

  diff-small : SFits w32 (z -ℤ pos a)
  diff-small = fits (32768 + 256) (abs_add z (neg_ℤ (pos a)) 32768 256 (abs_fits z f) (rw abs_neg (omega arith))) (omega arith)

  pub sum-wide : SFits w32 (to_z w32 (of_z w32 (to_z w16 (of_z w16 z))) +ℤ to_z w32 a)
  sum-wide = rw (wide_is z f, to_z_pos w32 a (omega arith)) sum-small

  pub sum-wide-is : to_z w32 (of_z w32 (to_z w32 (of_z w32 (to_z w16 (of_z w16 z))) +ℤ to_z w32 a)) ≡ z +ℤ pos a
  sum-wide-is = rw (wide_is z f, to_z_pos w32 a (omega arith)) (to_z-of_z w32 (z +ℤ pos a) sum-small)

  pub diff-wide : SFits w32 (to_z w32 (of_z w32 (to_z w16 (of_z w16 z))) -ℤ to_z w32 a)
  diff-wide = rw (wide_is z f, to_z_pos w32 a (omega arith)) diff-small

  pub diff-wide-is : to_z w32 (of_z w32 (to_z w32 (of_z w32 (to_z w16 (of_z w16 z))) -ℤ to_z w32 a)) ≡ z -ℤ pos a
  diff-wide-is = rw (wide_is z f, to_z_pos w32 a (omega arith)) (to_z-of_z w32 (z -ℤ pos a) diff-small)

-- the k-th pulse, as the code applies it
pub apply_is : {x : Answer (List ℤ)} (p : Pulses) (k : ℕ) (lines : List ℤ) (s : List ℕ) (at end : ℕ)
    → x ≡ changed (pulsed (get_or lines (get_or p.lines k 0) (pos 0)) (get_or p.amplitudes k 0)) (get_or p.lines k 0)
    (get_or p.places k 0) lines at
    → apply_pulse p k lines s at end ≡ x
unfolding apply_pulse
apply_is p k lines s at end e = sym e

pub apply_start : (p : Pulses) (lines : List ℤ) (s : List ℕ) (at end : ℕ)
    → apply_pulses p lines s at end ≡ counted 0 (p.count - 0) (apply_pulse p) lines s at end
unfolding apply_pulses
apply_start p lines s at end = counted_start (apply_pulse p) p.count lines s at end
