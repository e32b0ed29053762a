-- Where pulses stand: each place that pulses hold is no further than the end that they were read up to, and so is the place of a pulse that
-- passes 8191.
-- Assumes nothing.
use Prim.Native.Nat.{ℕ, zero, suc, ◌+◌, ◌≤◌}
use mathlib.Core.Path.{◌≡◌, subst}
use mathlib.Core.List.{List}
use mathlib.Core.Bool.{Bool, true, false}
use native.Mathlib.Omega.{arith}
use lib.Dec.{eqb, leb}
use lib.ListN.{get_or, set, replicate}
use lib.IntN.{ℤ, nat_abs}
use Rattle.bits.specs.Reader.{got, refused, give, pick, expecting}
use Rattle.bits.specs.Field.{field}
use Rattle.bits.specs.Loop.{counted}
use Rattle.bits.specs.Places.{here}
use Rattle.bits.proofs.Lawful.{not-refused, same-value, same_place, split, after-placed, expecting-lawful}
use Rattle.bits.proofs.FieldLaws.{field-lawful}
use Rattle.channel_side.proofs.MostLaws.{set-most}
use Rattle.channel_side.proofs.SideLawful.{pulse-lawful}
use Rattle.channel_side.specs.Pulses.{Laid, Pulses, none_laid, pulse, each_pulse, start_band, pulse_data, no_pulses, pulses, changed}
use Rattle.channel_side.specs.Pulses.{apply_pulse, apply_pulses}

-- no place is further than the end
abbrev pub UpTo : ℕ → List ℕ → Type 0
UpTo end places = (k : ℕ) → get_or places k 0 ≤ end

none-up_to : (end : ℕ) → UpTo end (replicate 4 0)
none-up_to end zero = omega arith
none-up_to end (suc zero) = omega arith
none-up_to end (suc (suc zero)) = omega arith
none-up_to end (suc (suc (suc zero))) = omega arith
none-up_to end (suc (suc (suc (suc k)))) = omega arith

module _ (s : List ℕ) (end : ℕ) where
  pulse-up-to : (k : ℕ) (x : Laid) (at : ℕ) (y : Laid) (next : ℕ) → at ≤ end → UpTo end x.places → pulse k x s at end ≡ got y next
      → UpTo end y.places
  unfolding pulse here
  pulse-up-to k x at y next h low e =
      let offset = split (expecting 25 (λ v. leb (x.last + v) 1023) (field 5) s at end) _ s end next y e in
      let amplitude = split (field 4 s offset.1 end) _ s end next y offset.3 in
      subst (λ (z : Laid). UpTo end z.places) (same-value amplitude.3) (set-most end x.places k at h low)

  each-up-to : (i n : ℕ) (x : Laid) (at : ℕ) (y : Laid) (next : ℕ) → at ≤ end → UpTo end x.places
      → counted i n pulse x s at end ≡ got y next → UpTo end y.places
  unfolding counted
  each-up-to i zero x at y next h low e = subst (λ (z : Laid). UpTo end z.places) (same-value e) low
  each-up-to i (suc n) x at y next h low e =
      let first = split (pulse i x s at end) (counted (i + 1) n pulse) s end next y e in
      let w = (pulse-lawful i x).accepts.within s at end first.1 first.0 h first.2 in
      each-up-to (i + 1) n first.0 first.1 y next w.1 (pulse-up-to i x at first.0 first.1 h low first.2) first.3

  data-up-to : (index at : ℕ) (x : Pulses) (next : ℕ) → at ≤ end → pulse_data index s at end ≡ got x next → UpTo end x.places
  unfolding pulse_data start_band each_pulse
  data-up-to index at x next h e =
      let less = split (field 2 s at end) _ s end next x e in
      let start = split _ _ s end next x less.3 in
      let laid = split _ _ s end next x start.3 in
      let a = (field-lawful 2).accepts.within s at end less.1 less.0 h less.2 in
      let b = (expecting-lawful 25 _ _ (field-lawful 6)).accepts.within s less.1 end start.1 start.0 a.1 start.2 in
      subst (λ (z : Pulses). UpTo end z.places) (same-value laid.3)
      (each-up-to 0 _ (none_laid _) start.1 laid.0 laid.1 b.1 (none-up_to end) laid.2)

  -- the places of pulses that were read
  pub pulses-up-to : (index : ℕ) (short : Bool) (at : ℕ) (x : Pulses) (next : ℕ) → at ≤ end → pulses index short s at end ≡ got x next
      → UpTo end x.places
  unfolding pulses
  pulses-up-to index short at x next h e =
      let flag = split _ _ s end next x e in
      let a = (expecting-lawful 25 _ _ (field-lawful 1)).accepts.within s at end flag.1 flag.0 h flag.2 in
      by_flag (eqb flag.0 1) flag.1 a.1 flag.3
    where
      by_flag : (b : Bool) (m : ℕ) → m ≤ end → pick b (pulse_data index) (give no_pulses) s m end ≡ got x next → UpTo end x.places
      by_flag true m h e = data-up-to index m x next h e
      by_flag false m h e = subst (λ (z : Pulses). UpTo end z.places) (same-value e) (none-up_to end)

  module _ (x : Pulses) (low : UpTo end x.places) where
    changed-up-to : (z : ℤ) (line place : ℕ) (lines : List ℤ) (at n p : ℕ) → place ≤ end → changed z line place lines at ≡ refused n p
        → p ≤ end
    unfolding changed
    changed-up-to z line place lines at n p h e = by_size (leb (nat_abs z) 8191) (set lines line z) e
      where
        by_size : (b : Bool) (ls : List ℤ) → pick b (got ls at) (refused 26 place) ≡ refused n p → p ≤ end
        by_size true ls e = not-refused e
        by_size false ls e = let q = same_place {A = List ℤ} e in omega arith

    some-up-to : (i n : ℕ) (lines : List ℤ) (at m p : ℕ) → counted i n (apply_pulse x) lines s at end ≡ refused m p → p ≤ end
    unfolding counted apply_pulse
    some-up-to i zero lines at m p e = not-refused e
    some-up-to i (suc n) lines at m p e =
        after-placed (apply_pulse x i lines) (counted (i + 1) n (apply_pulse x)) s at end m p
        (λ k q f. changed-up-to _ _ _ lines at k q (low i) f) (λ ls next f. some-up-to (i + 1) n ls next m p) e

    -- the place of a pulse that cannot be applied
    pub applied-up-to : (lines : List ℤ) (at n p : ℕ) → apply_pulses x lines s at end ≡ refused n p → p ≤ end
    unfolding apply_pulses
    applied-up-to lines at n p e = some-up-to 0 x.count lines at n p e
