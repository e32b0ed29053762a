-- A stream takes 38,000 bits at most, and no more are looked at: 25 for its head, 1,680 for sections, 2,400 for scale factors, 47 for
-- pulses and flags, and 33,792 for lines.
-- Assumes nothing.
use Prim.Native.Nat.{ℕ}
use mathlib.Core.List.{List}
use native.Mathlib.Omega.{arith}
use Rattle.bits.specs.Field.{field}
use Rattle.bits.proofs.Gives.{Gives, map_gives, then_gives}
use Rattle.bits.proofs.NearLaws.{Near, so_costs, on_costs, give-costs, field-costs, zero_bit-costs, known-costs, bind_costs}
use Rattle.channel_lines.proofs.SpectrumNear.{spectrum-near}
use Rattle.channel_side.specs.declared.window.Window.{Window}
use Rattle.channel_side.specs.InnerAnswers.{Bounded}
use Rattle.channel_side.specs.Window.{is_short, max_sfb}
use Rattle.channel_side.proofs.SideNear.{window-bounded, window-near, sections-near, factors-near, pulses-near, applied_near}
use Rattle.channel.specs.Stream.{head_of, no_tools, unpulsed, coded_of, stream_with, stream_after, stream}

head-bounded : (index : ℕ) → Gives (λ h. Bounded index h.window) (head_of index)
unfolding head_of
head-bounded index = then_gives (field 8) λ gain. map_gives _ (window-bounded index) (λ w h. h)

head_near : (index : ℕ) → Near 25 (head_of index)
unfolding head_of
head_near index =
    bind_costs (field-costs 8 (omega arith)) λ gain.
    bind_costs (on_costs (omega arith) (window-near index)) λ w.
    give-costs (omega arith)

module _ (index : ℕ) (w : Window) (books : List ℕ) (h : Bounded index w) where
  unpulsed-near : Near 33794 (unpulsed index w books)
  unfolding unpulsed no_tools
  unpulsed-near =
      bind_costs (bind_costs (zero_bit-costs 20 (omega arith)) λ tns. zero_bit-costs 20 (omega arith)) λ flags.
      on_costs (omega arith) (spectrum-near index (is_short w) w.grouping (max_sfb w) books h)

  coded-near : Near 33839 (coded_of index w books)
  unfolding coded_of
  coded-near =
      bind_costs (on_costs (omega arith) (pulses-near index (is_short w))) λ ps.
      bind_costs (on_costs (omega arith) unpulsed-near) λ before.
      bind_costs (on_costs (omega arith) (applied_near ps before)) λ lines.
      give-costs (omega arith)

all_near : (index : ℕ) → Near 37944 (stream index)
unfolding stream stream_after stream_with
all_near index =
    known-costs (λ head. Bounded index head.window) (head-bounded index) (on_costs (omega arith) (head_near index)) λ head h.
    bind_costs (on_costs (omega arith) (sections-near index head.window h)) λ books.
    bind_costs (on_costs (omega arith) (factors-near index head.gain head.window books h)) λ factors.
    bind_costs (on_costs (omega arith) (coded-near index head.window books h)) λ coded.
    give-costs (omega arith)

pub stream-near : (index : ℕ) → Near 38000 (stream index)
stream-near index = so_costs {all = 37944} (omega arith) (λ x. omega arith) (all_near index)
