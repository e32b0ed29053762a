-- The bands' tables rise, up to the lines of a window; each is a part of the list of all edges.
-- Assumes nothing.
use Prim.Native.Nat.{ℕ, zero, suc, ◌-◌, ◌<◌, ◌≤◌}
use mathlib.Core.Path.{◌≡◌, refl}
use mathlib.Core.List.{List, [], ◌∷◌}
use mathlib.Core.Bool.{Bool, true, false, ◌&&◌}
use native.Mathlib.Omega.{arith}
use lib.Dec.{T, leb, leb→le}
use lib.ListN.{length, get_or}
use borrow.Author.Tests.{le-leb, lt-leb}
use Rattle.bits.specs.Reader.{pick}
use Rattle.bits.proofs.Bools.{and_left, and_right}
use Rattle.channel_bands.specs.Bands.{long34, short34, long67, short67, bands, band_count}
use Rattle.channel_bands.specs.InnerBands.{window_lines, most_bands, Rising}

-- each number is at most the next, and the last at most n
abbrev rising : ℕ → List ℕ → Bool
rising n [] = true
rising n (x ∷ []) = leb x n
rising n (x ∷ (y ∷ ys)) = leb x y && rising n (y ∷ ys)

risen : (n : ℕ) (xs : List ℕ) → T (rising n xs) → (b : ℕ) → suc b < length xs →
    (get_or xs b 0 ≤ get_or xs (suc b) 0) × (get_or xs (suc b) 0 ≤ n)
risen n [] t b h = absurd (omega arith)
risen n (x ∷ []) t b h = absurd (omega arith)
risen n (x ∷ (y ∷ [])) t zero h = (leb→le x y (and_left (leb x y) (leb y n) t), leb→le y n (and_right (leb x y) (leb y n) t))
risen n (x ∷ (y ∷ [])) t (suc b) h = absurd (omega arith)
risen n (x ∷ (y ∷ (z ∷ zs))) t zero h =
    let w = risen n (y ∷ (z ∷ zs)) (and_right (leb x y) _ t) zero (omega arith) in
    (leb→le x y (and_left (leb x y) (rising n (y ∷ (z ∷ zs))) t), omega arith)
risen n (x ∷ (y ∷ (z ∷ zs))) t (suc b) h = risen n (y ∷ (z ∷ zs)) (and_right (leb x y) _ t) b (omega arith)

-- a test of the four lists, by which two Bools choose
each_of : (test : Bool → List ℕ → Bool) → T (test true short34) → T (test true short67) → T (test false long34) → T (test false long67)
    → (index : ℕ) (short : Bool) → T (test short (bands index short))
unfolding bands
each_of test a b c d index true = go (leb index 4)
  where
    go : (t : Bool) → T (test true (pick t short34 short67))
    go true = a
    go false = b
each_of test a b c d index false = go (leb index 4)
  where
    go : (t : Bool) → T (test false (pick t long34 long67))
    go true = c
    go false = d

-- the bands of an index rise
pub bands-rising : (index : ℕ) (short : Bool) → Rising (bands index short) (window_lines short)
unfolding long34 short34 long67 short67 window_lines
bands-rising index short =
    record { step = risen (window_lines short) (bands index short) (each_of (λ b xs. rising (window_lines b) xs) tt tt tt tt index short) }

-- no index has more bands than the most
pub bands-most : (index : ℕ) (short : Bool) → band_count index short ≤ most_bands short
unfolding long34 short34 long67 short67 most_bands band_count
bands-most index short = leb→le _ _ (each_of (λ b xs. leb (length xs - 1) (most_bands b)) tt tt tt tt index short)

-- a list of bands has the end of the last as well
pub bands-some : (index : ℕ) (short : Bool) → band_count index short < length (bands index short)
unfolding long34 short34 long67 short67 band_count
bands-some index short = leb→le _ _ (each_of (λ b xs. leb (suc (length xs - 1)) (length xs)) tt tt tt tt index short)

-- what lies below a line lies below a later one
pub rising-up : (edges : List ℕ) (k l : ℕ) → k ≤ l → Rising edges k → Rising edges l
rising-up edges k l h r = record { step = λ b g. let w = r.step b g in (w.0, omega arith) }

module _ (index : ℕ) (short : Bool) where
  pub bands-short34 : short ≡ true → index ≤ 4 → bands index short ≡ short34
  unfolding bands
  bands-short34 e h = rw e (simp (le-leb index 4 h))

  pub bands-short67 : short ≡ true → 4 < index → bands index short ≡ short67
  unfolding bands
  bands-short67 e h = rw e (simp (lt-leb index 4 h))

  pub bands-long34 : short ≡ false → index ≤ 4 → bands index short ≡ long34
  unfolding bands
  bands-long34 e h = rw e (simp (le-leb index 4 h))

  pub bands-long67 : short ≡ false → 4 < index → bands index short ≡ long67
  unfolding bands
  bands-long67 e h = rw e (simp (lt-leb index 4 h))

-- the lines and the most bands of short and of long windows
pub of_short : (short : Bool) → short ≡ true → (window_lines short ≡ 128) × (most_bands short ≡ 15)
unfolding window_lines most_bands
of_short short e = rw e (refl, refl)

pub of_long : (short : Bool) → short ≡ false → (window_lines short ≡ 1024) × (most_bands short ≡ 49)
unfolding window_lines most_bands
of_long short e = rw e (refl, refl)

pub most-small : (short : Bool) → most_bands short ≤ 49
unfolding most_bands
most-small true = omega arith
most-small false = omega arith
