-- What is known of window information that was read.
-- Assumes nothing.
use Prim.Native.Nat.{ℕ, ◌<◌, ◌≤◌}
use mathlib.Core.Path.{◌≡◌}
use mathlib.Core.List.{List}
use mathlib.Core.Bool.{Bool, true, false}
use native.Mathlib.Omega.{arith}
use lib.Dec.{leb, eqb}
use borrow.Author.Tests.{leb-true}
use Rattle.bits.specs.Reader.{got, pick}
use Rattle.bits.specs.Field.{field, zero_bit}
use Rattle.bits.proofs.Lawful.{split, tested-got}
use Rattle.bits.proofs.Taken.{field_below}
use Rattle.channel_bands.specs.Bands.{band_count}
use Rattle.channel_side.specs.Window.{window_sequence, max_sfb_of, grouping_of}
use Rattle.channel_bands.proofs.BandLaws.{bands-most, most-small}

pub max_sfb_bound : (index : ℕ) (short : Bool) (s : List ℕ) (at end v next : ℕ) → max_sfb_of index short s at end ≡ got v next
    → v ≤ band_count index short
unfolding max_sfb_of
max_sfb_bound index short s at end v next e =
    leb-true _ _ (tested-got (field (pick short 4 6) s at end) 21 (λ m. leb m (band_count index short)) at next v e).1

pub zero_bit-below : (n : ℕ) (s : List ℕ) (at end v next : ℕ) → zero_bit n s at end ≡ got v next → v < 2
unfolding zero_bit
zero_bit-below n s at end v next e = field_below 1 s at end v next (tested-got (field 1 s at end) n (λ v. eqb v 0) at next v e).0

pub sequence_below : (s : List ℕ) (at end v next : ℕ) → window_sequence s at end ≡ got v next → v < 4
unfolding window_sequence
sequence_below s at end v next e =
    let w = split (zero_bit 13 s at end) (λ reserved. field 2) s end next v e in
    field_below 2 s w.1 end v next w.3

pub grouping_below : (short : Bool) (s : List ℕ) (at end v next : ℕ) → grouping_of short s at end ≡ got v next → v < 128
unfolding grouping_of
grouping_below true s at end v next e = field_below 7 s at end v next e
grouping_below false s at end v next e = let h = zero_bit-below 20 s at end v next e in omega arith

-- max_sfb is small
pub max_sfb_small : (index : ℕ) (short : Bool) (s : List ℕ) (at end v next : ℕ) → max_sfb_of index short s at end ≡ got v next → v ≤ 49
max_sfb_small index short s at end v next e =
    omega (arith, max_sfb_bound index short s at end v next e, bands-most index short, most-small short)

-- what the code cites
pub ruleset bounds = (max_sfb_bound, max_sfb_small, grouping_below, sequence_below, field_below)
